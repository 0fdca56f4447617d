-- What follows for floating numbers, by what it is on.
pub mod Nan
pub mod Numbers
pub mod Cases
pub mod Flags
pub mod Order
-- the theorem, with its worked steps
pub mod FloatingNumbers

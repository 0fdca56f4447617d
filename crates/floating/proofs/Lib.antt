pub mod Lengths
pub mod Remaining
pub mod Taking
pub mod Laws

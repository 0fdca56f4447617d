pub mod Cases
pub mod Lookups
pub mod Wholes

pub mod Remaining
pub mod Taking

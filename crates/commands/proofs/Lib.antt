mod Modes
pub mod Laws
pub mod Written

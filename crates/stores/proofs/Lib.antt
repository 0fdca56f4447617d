pub mod Storing
pub mod OnePage

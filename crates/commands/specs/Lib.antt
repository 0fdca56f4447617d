pub mod Goals
pub mod Execution

pub mod Patterns
pub mod Valued

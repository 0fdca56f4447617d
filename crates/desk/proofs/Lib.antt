pub mod Refused
pub mod Unwatched
pub mod Composed

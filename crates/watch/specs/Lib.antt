-- Addresses to watch for: whether a number is among them, and a filter.
pub mod Addresses

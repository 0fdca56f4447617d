-- whether a number is in a list, part by part
pub mod Parts
-- what a filter's bits say of the addresses
pub mod Filters

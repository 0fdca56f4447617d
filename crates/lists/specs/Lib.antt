-- Load lists, request F-1 of document 02.

-- how a list is written and read; its pieces; what it puts where
pub mod Lists
-- a list is read as some commands exactly where it is their bytes and an end
pub mod Format
-- numbers 17 to 19
pub mod Refusals

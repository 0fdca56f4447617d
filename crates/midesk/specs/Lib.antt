-- The calls for C and Rust. The state's bytes are those of crate `layout`.

-- the calls on numbers and bytes, and the version
pub mod Exports
-- a run on bytes is as many steps on bytes
pub mod Runs
-- not for callers: a run with breakpoints whose place is not yet found
pub mod Unplaced

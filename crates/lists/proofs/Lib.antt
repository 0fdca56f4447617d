-- what stands at an offset of a list, and what is read from there on
pub mod Reading
-- how a list is written
pub mod Format
-- puts into a memory
pub mod Puts
-- what is left of a list, command by command
pub mod Left
-- that what it puts are bytes
pub mod PutBytes
-- a list judged command by command
pub mod Judging
-- what an accepted list is
pub mod Accepted
-- worked lists, computed
pub mod Worked

-- Two lists, one memory, request F-5 of document 02. A list, its refusals and what it puts are in crate
-- `lists`; a list alone is loaded in crate `load`; when two clash is in crate `clash`.

-- the call, with numbers 22 and 23
pub mod Joint
-- what the request says of it, by theorems
pub mod Effects

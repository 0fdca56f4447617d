-- When two lists clash, request F-5 of document 02. A list and what it puts are in crate `lists`; the call
-- that loads both is in crate `joint`.

-- when two lists clash; a cleared scratch
pub mod Clashes
-- not the request: what is noted in the scratch
pub mod Notes

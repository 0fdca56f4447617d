-- Load lists, request F-1 of document 02: a list loaded into a memory. Its commands and what is
-- refused of it are in crate `lists`.

-- the call
pub mod Loading
-- what the request says of it beyond the answer
pub mod Effects
-- not the request: what is known before anything is put
pub mod Judged

-- Breakpoints, request F-3 of document 02. What a step is, and a run without breakpoints, is in crate
-- `machine`.

-- a list of them, and the first armed one at an R15
pub mod Breakpoints
-- the call: a run that one of them may hold, with number 20
pub mod RunTo
-- what the request says of it, by theorems
pub mod Holding
-- not the request: the armed addresses of a list as plain data
pub mod Gathered

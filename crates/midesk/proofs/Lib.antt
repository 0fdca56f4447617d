pub mod Refused
pub mod Stops
-- what a step leaves has room in its bytes
pub mod Room
pub mod OperandRoom
pub mod CommandRoom
pub mod StepRoom
-- a run is steps, and one with breakpoints is a run
pub mod Runs
pub mod RunsTo
-- the number of an answer
pub mod Numbers
-- what a run with breakpoints is made of
pub mod Composed

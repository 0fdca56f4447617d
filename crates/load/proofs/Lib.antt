-- what is left of a list to be put
pub mod Putting
-- how the call ends
pub mod Outcomes
-- what a load leaves
pub mod Effects
-- worked loads, computed
pub mod Worked

-- two lists that agree
pub mod Agreement
-- how the call ends
pub mod Outcomes
-- what an answer says, and what it leaves
pub mod Answers
-- either order; with an empty list, or with itself
pub mod Orders
-- the theorems of the request
pub mod Effects
-- worked loads, computed
pub mod Worked

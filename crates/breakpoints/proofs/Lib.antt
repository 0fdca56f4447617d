-- Laws about breakpoints, by what they are on.

-- how many are looked at
pub mod Looked
-- which one holds
pub mod Search
pub mod FirstArmed
-- the addresses of the armed ones
pub mod Gathering
-- runs with breakpoints
pub mod Steps
-- the place of a hold
pub mod Placing
-- the theorem about them
pub mod Holding

-- Laws and theorems about the definitions, by what they are on.

-- numbers of any width
pub mod Differences
pub mod Widths
pub mod Results
pub mod Biased
pub mod Magnitudes
pub mod Shifts
pub mod Bytes
-- the table of command bytes
pub mod CommandBytes
-- memory: writes, views, pages, blocks
pub mod Writes
pub mod Views
pub mod Pages
pub mod Blocks
-- steps and calls
pub mod Levels
pub mod Refusals
pub mod Accepted
pub mod UserCalls
-- computed: the tried values, the near misses; shifts to the left, pages without commands and bytes
-- in one page, laws and examples
pub mod WholeStep
pub mod TriedValues
pub mod NearMisses
pub mod LeftShifts
pub mod PagesWithoutCommands
pub mod OnePage
-- demand 3
pub mod Indistinguishable
pub mod Isolation

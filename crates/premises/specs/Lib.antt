-- Demand 3: two memories that differ can meet its premises, and none of them can be left out.
pub mod Premises

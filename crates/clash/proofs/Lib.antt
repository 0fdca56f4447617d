-- notes put by put, and what they leave at each address
pub mod Noting
-- what the notes of a round say
pub mod Rounds

-- The answer is changed only where the run was held.
use borrow.Author.Rules.{rules}
use Rattle.breakpoints.specs.Gathered.{placed_reply}
use Rattle.breakpoints.proofs.placed.Goals as goal

pub returns-in-Ok-Some : goal.returns-in-Ok-Some
unfolding placed_reply
returns-in-Ok-Some c = search rules

pub returns-in-Ok-None : goal.returns-in-Ok-None
unfolding placed_reply
returns-in-Ok-None c = search rules

pub returns-in-Err : goal.returns-in-Err
unfolding placed_reply
returns-in-Err c = search rules

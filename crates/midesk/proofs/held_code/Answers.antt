-- The kind of a hold, and its place is added.
use borrow.Author.Tests.{lt-ltb, le-ltb}
use Rattle.std.proofs.Common.{rules}
use Rattle.midesk.specs.Exports.{run_to_code}
use Rattle.midesk.proofs.held_code.Goals as goal

pub returns-in-Some : goal.returns-in-Some
unfolding run_to_code
returns-in-Some c = search (rules, lt-ltb)

pub returns-in_default : goal.returns-in_default
unfolding run_to_code
returns-in_default c = search (rules, le-ltb)

pub returns-in_default-2 : goal.returns-in_default-2
unfolding run_to_code
returns-in_default-2 c = search rules

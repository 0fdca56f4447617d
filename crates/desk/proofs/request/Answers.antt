-- The tests are those of the definition, in its order; a refusal hands the desk back, and only the pending set changes
-- otherwise.
use Rattle.std.proofs.Common.{◌≡◌, ◌≤◌, sym, false, ◌&&◌, leb, rules}
use borrow.Author.Tests.{le-leb}
use Rattle.machine.specs.Calls.{first_refused, passes5, passes6, unchanged, unless_refused, request_refusal}
use Rattle.machine.specs.Calls.{request_outcome, request_of}
use Rattle.desk.proofs.request.Goals as goal

pub returns-then-not-state_valid : goal.returns-then-not-state_valid
unfolding request_of request_outcome request_refusal unless_refused unchanged first_refused passes5 passes6
returns-then-not-state_valid c = simp (sym c.if-not-state_valid.ensures)

pub returns-then-not-contains : goal.returns-then-not-contains
unfolding request_of request_outcome request_refusal unless_refused unchanged first_refused passes5 passes6
returns-then-not-contains c =
    let outside : (leb 1 c.args.level && leb c.args.level 15) ≡ false = search rules in
    simp (sym c.if-not-state_valid.ensures, outside)

pub returns : goal.returns
unfolding request_of request_outcome request_refusal unless_refused unchanged first_refused passes5 passes6
returns c =
    let low : 1 ≤ c.args.level = search rules in
    let high : c.args.level ≤ 15 = search rules in
    simp (sym c.if-not-state_valid.ensures, le-leb 1 c.args.level low, le-leb c.args.level 15 high, c.with_level.ensures)

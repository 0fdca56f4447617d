use native.Mathlib.Omega.{arith}
use Rattle.sure.proofs.Remaining.{one-taken, all_taken}
use Rattle.allforms.proofs.take_each.Goals as goal

pub loop-place-preserved : goal.loop-place-preserved
loop-place-preserved c =
    rw (c.with-all.ensures, c.rest_of-rest.ensures)
    (one-taken c.loop-place.invariant (omega arith) _ c.role_in.ensures _ c.in_ok-taken.taken
    c.in_ok-taken.ensures.value c.in_ok-taken.ensures.reaches)

pub returns-clause-value : goal.returns-clause-value
returns-clause-value c = all_taken c.loop-place.invariant (omega arith)

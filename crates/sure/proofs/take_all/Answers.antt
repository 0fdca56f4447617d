use native.Mathlib.Omega.{arith}
use Rattle.sure.proofs.Remaining.{none-taken, one-taken, all_taken, nothing_changed, one_more}
use Rattle.sure.proofs.take_all.Goals as goal

pub loop-place-init : goal.loop-place-init
loop-place-init c = record { midway = none-taken c.requires.all_of; only = nothing_changed _ }

pub returns-in_err-taken-clause-only : goal.returns-in_err-taken-clause-only
returns-in_err-taken-clause-only c = one_more c.loop-place.invariant.only c.operand.ensures.only

pub loop-place-preserved : goal.loop-place-preserved
loop-place-preserved c = record {
  midway =
      rw (c.with-all.ensures, c.rest_of-rest.ensures)
      (one-taken c.loop-place.invariant.midway (omega arith) _ c.role_in.ensures _ c.in_ok-taken.taken
      c.in_ok-taken.ensures.value c.in_ok-taken.ensures.reaches);
  only = one_more c.loop-place.invariant.only c.operand.ensures.only;
}

pub returns-clause-value : goal.returns-clause-value
returns-clause-value c = all_taken c.loop-place.invariant.midway (omega arith)

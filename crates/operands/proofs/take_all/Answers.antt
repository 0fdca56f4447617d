use native.Mathlib.Omega.{arith}
use Rattle.std.proofs.lemmas.Result.{err_from_is_err_and}
use Rattle.machine.specs.Operands.{with_taken}
use Rattle.operands.proofs.Remaining.{all_left, none_left, lost, next_alarm, next-left}
use Rattle.operands.proofs.take_all.Goals as goal

pub loop-place-init : goal.loop-place-init
loop-place-init c = record { left = all_left _ _ _; small = tt }

pub returns-in_err-location-clause-value : goal.returns-in_err-location-clause-value
returns-in_err-location-clause-value c =
    let p = err_from_is_err_and c.from_residual.result c.from_residual.ensures.1 in
    rw (p.1, p.2)
    (lost _ _ _ _ _ _ c.loop-place.invariant.left (omega arith) _ c.size_in-size.ensures _ c.role_in-role.ensures _ _
    c.in_err-location.ensures.location)

pub returns-in_err-t-clause-value : goal.returns-in_err-t-clause-value
returns-in_err-t-clause-value c =
    let p = err_from_is_err_and c.from_residual-in_err-t.result c.from_residual-in_err-t.ensures.1 in
    rw (p.1, p.2)
    (next_alarm _ _ _ _ _ _ c.loop-place.invariant.left (omega arith) _ c.size_in-size.ensures _ c.role_in-role.ensures _
    c.in_ok-location.ensures.location _ _ c.in_err-t.ensures.value)

pub loop-place-preserved : goal.loop-place-preserved
unfolding with_taken
loop-place-preserved c = record {
  left =
      rw (c.chosen.ensures, c.chosen-in-loop-place.ensures, c.rest_of-rest.ensures)
      (next-left _ _ _ _ _ _ c.loop-place.invariant.left (omega arith) _ c.size_in-size.ensures _ c.role_in-role.ensures
      _ c.in_ok-location.ensures.location _ c.in_ok-t.ensures.value);
  small = c.in_ok-t.ensures.small;
}

pub returns-clause-value : goal.returns-clause-value
returns-clause-value c = none_left _ _ _ _ _ _ c.loop-place.invariant.left (omega arith)

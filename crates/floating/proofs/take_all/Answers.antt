use Rattle.std.proofs.lemmas.Result.{err_from_is_err_and}
use Rattle.machine.specs.Operands.{with_taken}
use Rattle.floating.proofs.Remaining.{none_left, next_unfound, next_alarm, next-left}
use Rattle.floating.proofs.take_all.Goals as goal

pub returns-in_err-location-clause-value : goal.returns-in_err-location-clause-value
returns-in_err-location-clause-value c =
    let p = err_from_is_err_and c.from_residual.result c.from_residual.ensures.1 in
    rw (p.1, p.2)
    (next_unfound _ _ _ _ _ _ _ c.loop-place.invariant.0 c.loop-place-test.true _
    c.role_in-role.ensures _ _ c.in_err-location.ensures.location)

pub returns-in_err-t-clause-value : goal.returns-in_err-t-clause-value
returns-in_err-t-clause-value c =
    let p = err_from_is_err_and c.from_residual-in_err-t.result c.from_residual-in_err-t.ensures.1 in
    rw (p.1, p.2)
    (next_alarm _ _ _ _ _ _ _ c.loop-place.invariant.0 c.loop-place-test.true _
    c.role_in-role.ensures _ c.in_ok-location.ensures.location _ _ c.in_err-t.ensures.value)

pub loop-place-preserved : goal.loop-place-preserved
unfolding with_taken
loop-place-preserved c = (
  rw (c.chosen.ensures, c.chosen-in-loop-place.ensures, c.rest_of-rest.ensures)
      (next-left _ _ _ _ _ _ _ c.loop-place.invariant.0 c.loop-place-test.true _
      c.role_in-role.ensures _ c.in_ok-location.ensures.location _ c.in_ok-t.ensures.value),
  c.in_ok-t.ensures.small,
)

pub returns-clause-value : goal.returns-clause-value
returns-clause-value c = none_left _ _ _ _ _ _ _ c.loop-place.invariant.0 c.loop-place-test.false

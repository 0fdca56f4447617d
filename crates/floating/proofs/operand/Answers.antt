-- `operand` is right: the fields at R15, what is excluded among them, R15 moved past them, and then
-- the form; an alarm is the same over any registers.
use Rattle.std.proofs.lemmas.Result.{err_from_is_err_and}
use Rattle.machine.specs.FloatCode.{float_operand_at}
use Rattle.floating.proofs.operand.Goals as goal

pub returns-in_err-fields-clause-location : goal.returns-in_err-fields-clause-location
unfolding float_operand_at
returns-in_err-fields-clause-location c =
    let p = err_from_is_err_and c.from_residual.result c.from_residual.ensures.1 in
    rw (p.1, p.2, ← c.in_err-fields.ensures)

pub returns-then-is_excluded-clause-location : goal.returns-then-is_excluded-clause-location
unfolding float_operand_at
returns-then-is_excluded-clause-location c = rw (
  c.misplaced.ensures,
  ← c.in_ok-fields.ensures,
  ← c.is_excluded.ensures,
  c.if-is_excluded.true,
)

pub returns-clause-location : goal.returns-clause-location
unfolding float_operand_at
returns-clause-location c = rw (
  c.by_form.ensures.location,
  c.length.ensures,
  c.plus.ensures,
  ← c.in_ok-fields.ensures,
  ← c.is_excluded.ensures,
  c.if-is_excluded.false,
)

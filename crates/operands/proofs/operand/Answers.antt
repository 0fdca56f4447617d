-- `operand` is right: the fields at R15, R15 moved past them, and then the form.
use Rattle.std.proofs.lemmas.Result.{err_from_is_err_and}
use Rattle.machine.specs.Operands.{operand_at}
use Rattle.operands.proofs.operand.Goals as goal

pub returns-in_err-fields-clause-location : goal.returns-in_err-fields-clause-location
unfolding operand_at
returns-in_err-fields-clause-location c =
    let p = err_from_is_err_and c.from_residual.result c.from_residual.ensures.1 in
    rw (p.1, p.2) (simp (← c.in_err-fields.ensures))

pub returns-clause-location : goal.returns-clause-location
unfolding operand_at
returns-clause-location c =
    simp (c.by_form.ensures.location, c.length.ensures, c.plus.ensures, ← c.in_ok-fields.ensures)

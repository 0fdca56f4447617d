-- `operand` is right: the fields at R15, R15 moved past them, the form, and what the role takes.
use Rattle.std.proofs.Common.{ap, slice_set}
use Rattle.sure.proofs.Taking.{gives}
use Rattle.sure.proofs.operand.Goals as goal

pub returns-clause-value : goal.returns-clause-value
returns-clause-value c =
    gives _ _ _ _ _ c.in_ok-fields.ensures _ (ap (slice_set c.args.regs.now 15) c.plus.ensures) _ c.in_ok-spot.ensures.spot
    c.take.result c.take.ensures.value

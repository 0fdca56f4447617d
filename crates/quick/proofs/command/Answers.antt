-- `command` is right: a byte from 10h on is allowed in both modes, what is carried out ends the
-- command, and where it is left R15 is put back.
use Rattle.quick.proofs.Carrying.{done_ends}
use Rattle.quick.proofs.command.Goals as goal

pub returns-else-is_none : goal.returns-else-is_none
returns-else-is_none c =
    done_ends c.args.status c.args.map c.args.regs.now c.args.mem.now _ c.in-Ok.ensures.value
    c.in-Ok.ensures.small c.if-b-lt16.false _ c.rules_of.ensures.rules _
    (rw c.plus.ensures) _ _ _ c.if-is_none.ensures c.carry_out-done.ensures

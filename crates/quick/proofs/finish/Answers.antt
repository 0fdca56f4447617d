-- `finish` is right in each case of the action: its function ends the command, or the end is what the
-- case says; in the other cases nothing is done.
use Rattle.commands.specs.Execution.{action_end}
use Rattle.quick.proofs.finish.Goals as goal

pub returns-in-Give-W-default : goal.returns-in-Give-W-default
unfolding action_end
returns-in-Give-W-default c =
    let word = c.in-Give-W-default in
    rw (word.is, rw word.is at word.field-0-is) c.put.ensures

pub returns-in-Flags : goal.returns-in-Flags
unfolding action_end
returns-in-Flags c = rw (c.in-Flags.is, c.with_flags.ensures)

pub returns-then-taken : goal.returns-then-taken
unfolding action_end
returns-then-taken c = rw (c.in-Jump.is, c.if-taken.true)

pub returns-else-taken : goal.returns-else-taken
unfolding action_end
returns-else-taken c = rw (c.in-Jump.is, c.if-taken.false)

pub returns-in-Call : goal.returns-in-Call
unfolding action_end
returns-in-Call c = rw c.in-Call.is c.call.ensures

pub returns-in-Return : goal.returns-in-Return
unfolding action_end
returns-in-Return c = rw c.in-Return.is c.ret.ensures

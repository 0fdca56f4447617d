-- `finish` is right in each case of the action: its function ends the command, or the end is what the
-- case says.
use Rattle.commands.specs.Execution.{action_end}
use Rattle.commands.proofs.finish.Goals as goal

pub returns-in-Give : goal.returns-in-Give
unfolding action_end
returns-in-Give c = rw c.in-Give.is c.put.ensures

pub returns-in-Flags : goal.returns-in-Flags
unfolding action_end
returns-in-Flags c = rw (c.in-Flags.is, c.with_flags.ensures)

pub returns-then-taken : goal.returns-then-taken
unfolding action_end
returns-then-taken c = rw (c.in-Jump.is, c.if-taken.true)

pub returns-else-taken : goal.returns-else-taken
unfolding action_end
returns-else-taken c = rw (c.in-Jump.is, c.if-taken.false)

pub returns-in-Push : goal.returns-in-Push
unfolding action_end
returns-in-Push c = rw c.in-Push.is c.push.ensures

pub returns-in-Pop : goal.returns-in-Pop
unfolding action_end
returns-in-Pop c = rw c.in-Pop.is c.pop.ensures

pub returns-in-Call : goal.returns-in-Call
unfolding action_end
returns-in-Call c = rw c.in-Call.is c.call.ensures

pub returns-in-Return : goal.returns-in-Return
unfolding action_end
returns-in-Return c = rw c.in-Return.is c.ret.ensures

pub returns-in-System : goal.returns-in-System
unfolding action_end
returns-in-System c = rw c.in-System.is

pub returns-in-Halt : goal.returns-in-Halt
unfolding action_end
returns-in-Halt c = rw c.in-Halt.is

pub returns-in-Resume : goal.returns-in-Resume
unfolding action_end
returns-in-Resume c = rw c.in-Resume.is

-- `take_each` is right: after each operand those that are left give what all of them give.
use Rattle.machine.specs.declared.Size.TheVariants.{W}
use Rattle.sure.proofs.Remaining.{Midway}
use Rattle.allforms.proofs.take_each.Given as goal

abbrev pub invariant-loop-place : goal.invariant-loop-place
invariant-loop-place l = Midway W l.status l.map l.mem l.fn.rules.number l.initial.regs l.regs l.place l.rest.number l.all

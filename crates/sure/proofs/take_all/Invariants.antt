-- `take_all` is right: after each operand those that are left give what all of them give, and R15
-- alone has changed.
use Rattle.sure.specs.Answers.{OnlyR15}
use Rattle.sure.proofs.Remaining.{Midway}
use Rattle.sure.proofs.take_all.Given as goal

abbrev pub invariant-loop-place : goal.invariant-loop-place
invariant-loop-place l = record {
  midway : Midway l.size l.status l.map l.mem l.fn.rules.number l.initial.regs l.regs l.place l.rest.number l.all;
  only : OnlyR15 l.initial.regs l.regs;
}

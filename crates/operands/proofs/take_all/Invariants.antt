-- `take_all` is right. The loop's invariant: the operands that are left give what all of them give.
use Rattle.machine.specs.Operands.{operands_of}
use Rattle.machine.specs.Map.{view_by}
use Rattle.rules.specs.Rules.{count_in, rules_in}
use Rattle.forms.specs.Answers.{SmallTarget}
use Rattle.operands.proofs.Remaining.{Left}
use Rattle.operands.proofs.take_all.Given as goal

abbrev pub invariant-loop-place : goal.invariant-loop-place
invariant-loop-place l = record {
  left :
      Left
      (view_by l.status l.map l.mem)
      l.place
      (count_in l.fn.rules.number)
      l.rest.number
      (record { first = l.taken.first; second = l.taken.second; target = l.taken.target; registers = l.regs })
      (operands_of (view_by l.status l.map l.mem) (rules_in l.fn.rules.number) l.initial.regs);
  small : SmallTarget l.taken.target;
}

-- `take_all` is right. The loop's invariant: the operands that are left give what all of them give.
use Rattle.machine.specs.FloatCode.{float_operands_of}
use Rattle.machine.specs.Map.{view_by}
use Rattle.rules.specs.Rules.{roles_in}
use Rattle.forms.specs.Answers.{SmallTarget}
use Rattle.floating.proofs.Remaining.{Left}
use Rattle.floating.proofs.take_all.Given as goal

abbrev pub invariant-loop-place : goal.invariant-loop-place
invariant-loop-place l =
    Left
    (view_by l.status l.map l.mem)
    l.kind
    l.place
    l.place-end
    l.rest.number
    (record { first = l.taken.first; second = l.taken.second; target = l.taken.target; registers = l.regs })
    (float_operands_of (view_by l.status l.map l.mem) l.kind (roles_in l.fn.rules.number) l.initial.regs)
    × SmallTarget l.taken.target

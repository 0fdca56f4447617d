-- `pop_each` is right: the turns that are left come to what all of them come to, and the first read
-- that alarms ends it.
use Prim.Native.Nat.{◌-◌}
use mathlib.Core.Path.{◌≡◌}
use Rattle.machine.specs.Map.{view_by}
use Rattle.machine.specs.Commands.{popped}
use Rattle.stack.proofs.pop_each.Given as goal

abbrev pub invariant-loop-i : goal.invariant-loop-i
invariant-loop-i l =
    popped (view_by l.status l.map l.mem) (15 - l.i) l.i l.regs ≡ popped (view_by l.status l.map l.mem) 15 0 l.initial.regs

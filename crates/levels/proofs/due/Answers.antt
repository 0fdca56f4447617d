-- Each turn goes one level down, and none that it leaves is due.
use Rattle.std.proofs.Common.{◌≡◌, ◌-◌, ◌<◌, sym, ◌∙◌, arith}
use borrow.Author.Tests.{lt-ltb, le-ltb}
use Rattle.machine.specs.Steps.{due}
use Rattle.machine.proofs.Levels.{due_here, due_free, due_held}
use Rattle.levels.proofs.due.Goals as goal
use Rattle.levels.proofs.due.Goals.{else-pending-k-eq1-via-then-pending-k-eq1+else-level-k, else-pending-k-eq1-via-else-pending-k-eq1}

pub returns-then-level-k-clause-value : goal.returns-then-level-k-clause-value
returns-then-level-k-clause-value c =
    sym (due_here _ _ _ (omega arith) c.if-pending-k-eq1.true (lt-ltb _ _ c.if-level-k.true)) ∙ c.loop-k.invariant

pub loop-k-preserved : goal.loop-k-preserved
loop-k-preserved c =
    let some : 0 < c.loop-k.k - 1 = omega arith in
    sym (elim c.else-pending-k-eq1.branch [
      | else-pending-k-eq1-via-then-pending-k-eq1+else-level-k w ↦ due_held _ _ _ some (le-ltb _ _ w.if-level-k.false)
      | else-pending-k-eq1-via-else-pending-k-eq1 w ↦ due_free _ _ _ some w.if-pending-k-eq1.false
    ]) ∙ c.loop-k.invariant

pub returns-clause-value : goal.returns-clause-value
unfolding due
returns-clause-value c = let none : c.loop-k.k - 1 ≡ 0 = omega arith in rw none at c.loop-k.invariant

-- while no level from k on is due, the level due among those below k is the level due
use Rattle.std.proofs.Common.{◌≡◌, ◌-◌}
use Rattle.machine.specs.Steps.{due}
use Rattle.levels.proofs.due.Given as goal

abbrev pub invariant-loop-k : goal.invariant-loop-k
invariant-loop-k l = due (l.k - 1) l.pending l.level ≡ due 15 l.pending l.level

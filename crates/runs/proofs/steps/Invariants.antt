-- `steps` is right: the invariant: the steps left from the present desk and memory come to what all
-- of them come to from the first, and that desk is accepted.
use Prim.Native.Nat.{◌-◌, ◌≤◌}
use Rattle.breakpoints.specs.Gathered.{among_at}
use Rattle.breakpoints.specs.RunTo.{steps_to}
use Rattle.runs.proofs.Runs.{Midway, Only}
use Rattle.runs.proofs.steps.Given as goal

abbrev pub invariant-loop-count : goal.invariant-loop-count
invariant-loop-count l =
    (l.count ≤ l.n) × Midway l.watched l.n l.count (steps_to (among_at l.watched) l.n 0 l.initial.desk l.initial.mem) l.initial.desk l.initial.mem l.desk l.mem
    × Only l.count l.initial.desk l.initial.mem l.last l.desk l.mem

abbrev pub decreases-loop-count : goal.decreases-loop-count
decreases-loop-count l = l.n - l.count

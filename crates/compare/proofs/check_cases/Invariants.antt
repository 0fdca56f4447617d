-- `check_cases` is safe: each turn counts at most one case.
use Rattle.std.proofs.Common.{◌+◌, ◌≤◌, ◌<◌}
use Rattle.compare.proofs.check_cases.Given as goal

abbrev pub invariant-loop-number : goal.invariant-loop-number
invariant-loop-number g l =
    (l.equal + l.differ < l.number-counter) × (l.equal + l.differ ≤ l.all)

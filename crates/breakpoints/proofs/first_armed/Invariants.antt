-- The search has passed i breakpoints of those that are looked at, and none of them holds.
use Rattle.std.proofs.Common.{take}
use Rattle.breakpoints.specs.Breakpoints.{most}
use Rattle.breakpoints.proofs.Search.{Passed}
use Rattle.breakpoints.proofs.first_armed.Given as goal

abbrev pub invariant-loop-i : goal.invariant-loop-i
invariant-loop-i l = Passed l.r15 (take most l.points) l.i

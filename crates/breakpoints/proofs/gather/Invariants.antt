-- what the loop has passed is gathered
use Rattle.breakpoints.proofs.Gathering.{SoFar}
use Rattle.breakpoints.proofs.gather.Given as goal

abbrev pub invariant-loop-p : goal.invariant-loop-p
invariant-loop-p l = SoFar l.points l.p-iterator.n l.p-iterator.iter.rest.now l.a

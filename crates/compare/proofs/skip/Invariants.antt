-- Each turn reads some bytes, or fails.
use Rattle.compare.proofs.skip.Given as goal

abbrev pub decreases-loop-left : goal.decreases-loop-left
decreases-loop-left g l = l.left

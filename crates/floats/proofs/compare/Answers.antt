-- `compare` is right: the order of the two values' numbers.
use Rattle.floats.proofs.compare.Goals as goal

pub returns : goal.returns
returns c = cc

-- `moved` is right: the bits stay, and the flags are those of the value.
use Rattle.floats.proofs.moved.Goals as goal

pub returns : goal.returns
returns c = cc

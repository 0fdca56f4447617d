-- `arithmetic` is right: the bits and the flags of what the two values combine to.
use Rattle.floats.proofs.arithmetic.Goals as goal

pub returns : goal.returns
returns c = cc

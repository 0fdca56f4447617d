-- `flags` is right: those of the value's number.
use Rattle.floats.proofs.flags.Goals as goal

pub returns : goal.returns
returns c = cc

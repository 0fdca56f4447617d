-- `is_negative` is right: the highest bit is set where the number is at least half the span.
use Rattle.machine.specs.Integers.{negative}
use Rattle.integers.proofs.is_negative.Goals as goal

pub returns : goal.returns
unfolding negative
returns c = rw c.half_of.ensures.value

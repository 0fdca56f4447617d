-- `number_flags` is right: N and Z by comparison with 0, V by `infinite_or_nan`, C clear.
use lib.Ieee.{of_bits}
use Rattle.machine.specs.Floats.{number_flags}
use Rattle.floats.proofs.number_flags.Goals as goal

pub returns : goal.returns
unfolding number_flags of_bits
returns c = rw (c.flags.ensures.value, c.infinite_or_nan.ensures)

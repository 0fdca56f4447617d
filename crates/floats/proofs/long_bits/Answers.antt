-- `long_bits` is right: only a NaN differs from itself, and its pattern is 7FF8000000000000h.
use lib.Ieee.{binary64, to_bits}
use Rattle.floats.proofs.Patterns.{same_nan_bits, no_nan}
use Rattle.floats.proofs.long_bits.Goals as goal

pub returns-then-x : goal.returns-then-x
unfolding to_bits
returns-then-x c = same_nan_bits binary64 _ c.if-x.true

pub float_to_bits-result : goal.float_to_bits-result
float_to_bits-result c = no_nan _ c.if-x.false

-- `short_of` is right: without its sign, a NaN's pattern is above 7F800000h, the infinity's, and zero
-- by zero is the NaN; any other pattern is read as it stands.
use lib.Ieee.{binary32}
use Rattle.floats.proofs.Patterns.{nan_above, no_nan_below}
use Rattle.floats.proofs.short_of.Goals as goal

pub returns-then-a-gt2139095040 : goal.returns-then-a-gt2139095040
returns-then-a-gt2139095040 c = nan_above binary32 _ c.if-a-gt2139095040.true

pub float_from_bits-result : goal.float_from_bits-result
float_from_bits-result c = no_nan_below binary32 _ c.if-a-gt2139095040.false

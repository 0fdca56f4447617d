-- `long_of` is right: without its sign, a NaN's pattern is above 7FF0000000000000h, the infinity's, and
-- zero by zero is the NaN; any other pattern is read as it stands.
use Rattle.std.proofs.Common.{◌≡◌, ◌%◌, arith}
use lib.Ieee.{binary64}
use Rattle.machine.specs.Words.{span}
use Rattle.floats.proofs.Patterns.{nan_above, no_nan_below}
use Rattle.floats.proofs.long_of.Goals as goal

pub returns-then-bits-gt9218868437227405312 : goal.returns-then-bits-gt9218868437227405312
returns-then-bits-gt9218868437227405312 c =
    let whole : c.args.bits % span 8 ≡ c.args.bits = omega arith in
    rw whole (nan_above binary64 _ c.if-bits-gt9218868437227405312.true)

pub float_from_bits-result : goal.float_from_bits-result
float_from_bits-result c = no_nan_below binary64 _ c.if-bits-gt9218868437227405312.false

pub returns : goal.returns
returns c =
    let whole : c.args.bits % span 8 ≡ c.args.bits = omega arith in
    rw whole

-- `short_bits` is right: only a NaN differs from itself, and its pattern is 7FC00000h.
use Rattle.std.proofs.Common.{T, sym, subst, arith}
use lib.Ieee.{binary32, to_bits, fits}
use lib.Ieee.Bits.{to_bits-lt}
use Rattle.floats.proofs.Patterns.{same_nan_bits, no_nan}
use Rattle.floats.proofs.short_bits.Goals as goal

pub returns-then-x : goal.returns-then-x
unfolding to_bits
returns-then-x c = same_nan_bits binary32 _ c.if-x.true

pub float_to_bits-result : goal.float_to_bits-result
float_to_bits-result c = no_nan _ c.if-x.false

pub overflow_cast-result : goal.overflow_cast-result
overflow_cast-result c =
    let held : T (fits binary32 c.args.x) = subst T (sym c.well_formed.0.1) tt in
    record { fits = omega (arith, to_bits-lt binary32 _ held) }

-- `divide` is right: the quotient of the magnitudes with the sign of the quotient, and V where that
-- does not fit.
use Rattle.std.proofs.Common.{div-le_self, arith, rules}
use Rattle.machine.specs.Words.{length_of}
use Rattle.machine.specs.Integers.{divided}
use Rattle.machine.proofs.Magnitudes.{magnitude, quotient_fits_by_magnitude, kept_quotient}
use Rattle.integers.proofs.Sized.{some_bytes, span-word}
use Rattle.products.proofs.divide.Goals as goal

pub with_sign-x-requires : goal.with_sign-x-requires
with_sign-x-requires c = omega (arith, div-le_self c.magnitude.result c.magnitude-2.result)

pub overflow_cast-n : goal.overflow_cast-n
overflow_cast-n c =
    let h = span-word c.args.size in
    omega (arith, div-le_self c.magnitude.result c.magnitude-2.result)

pub returns : goal.returns
unfolding divided magnitude
returns c = let s = c.args.size in
    let p = c.low-p.result in
    let q = c.low-q.result in record {
      value = simp (
        c.result.ensures.value,
        c.in_range.ensures,
        c.with_sign-x.ensures,
        c.magnitude-2.ensures.value,
        c.magnitude.ensures.value,
        c.signs_differ-negative.ensures,
        ← c.low-p.ensures.value,
        ← c.low-q.ensures.value,
        kept_quotient (length_of s) p q (some_bytes s) c.low-p.ensures.small c.low-q.ensures.small,
        quotient_fits_by_magnitude (length_of s) p q (some_bytes s) c.low-p.ensures.small c.low-q.ensures.small,
      );
      small = search rules;
    }

-- `magnitude` is right: a negative number is short of the span by its magnitude, which is half the
-- span at most.
use Rattle.std.proofs.Common.{◌≡◌, ℕ, ◌-◌, ◌<◌, ◌≤◌, true, false, sym, ◌∙◌, arith}
use Rattle.machine.specs.declared.Size.{Size}
use Rattle.machine.specs.Words.{length_of, span}
use Rattle.machine.specs.Integers.{half, negative}
use Rattle.machine.proofs.Magnitudes.{magnitude, magnitude-half}
use Rattle.integers.proofs.Sized.{some_bytes, span-word}
use Rattle.products.proofs.magnitude.Goals as goal

-- a negative number is short of the span by its magnitude
below_half : (s : Size) (x n : ℕ) → x < span (length_of s) → n ≡ span (length_of s)
    → negative (length_of s) x ≡ true → n - x ≤ half (length_of s)
unfolding magnitude
below_half s x n small whole below = rw whole (rw below at (magnitude-half (length_of s) x (some_bytes s) small))

pub overflow_cast-result-then-is_negative : goal.overflow_cast-result-then-is_negative
overflow_cast-result-then-is_negative c =
    let below : negative (length_of c.args.size) c.args.x ≡ true = sym c.is_negative.ensures ∙ c.if-is_negative.true in
    omega (
      arith,
      below_half c.args.size c.args.x c.span_of.result c.requires c.span_of.ensures.value below,
      span-word c.args.size,
    )

pub returns-then-is_negative : goal.returns-then-is_negative
returns-then-is_negative c =
    let below : negative (length_of c.args.size) c.args.x ≡ true = sym c.is_negative.ensures ∙ c.if-is_negative.true in
    record {
      value = rw (c.span_of.ensures.value, below);
      small = below_half c.args.size c.args.x c.span_of.result c.requires c.span_of.ensures.value below;
    }

pub returns : goal.returns
unfolding magnitude
returns c = let s = c.args.size in
    let n : negative (length_of s) c.args.x ≡ false = sym c.is_negative.ensures ∙ c.if-is_negative.false in record {
      value = rw n;
      small = rw n at (magnitude-half (length_of s) c.args.x (some_bytes s) c.requires);
    }

-- Shifts to the left, as the statement has them: five laws, and steps of which each side computes to
-- the other.
use Prim.Native.Nat.{ℕ, ◌-◌, ◌*◌, ◌%◌, ◌^◌, ◌≤◌, ◌<◌}
use mathlib.Core.Path.{◌≡◌, refl, ap, ◌∙◌}
use mathlib.Core.Logic.{◌↔◌}
use mathlib.Core.Bool.{true, false, not}
use native.Mathlib.Nat.{zero-mul}
use native.Mathlib.Omega.{arith}
use borrow.Author.Tests.{le-ltb, lt-leb, not-false}
use lib.Dec.{eqb}
use lib.IntN.{ℤ, pos, ◌*ℤ◌}
use lib.Pow.{pow_pos}
use Rattle.machine.specs.Words.{span}
use Rattle.machine.specs.State.{flag_v}
use Rattle.machine.specs.Integers.{half, negative, signed, fits, kept, result_of, plain, exact, complement}
use Rattle.machine.specs.Integers.{shifted_left}
use Rattle.machine.specs.TriedValues.{I, R, memory_with, kernel_desk, ran_on}
use Rattle.machine.specs.LeftShifts.{shift_ran, LeftShifts}
use Rattle.machine.proofs.WholeStep.{whole_step}
use Rattle.machine.proofs.Differences.{gap_pos, gap_same, gap_mul}
use Rattle.machine.proofs.Widths.{by_sign, signed_gap, signed-fits, signed-kept, exact-fits}
use Rattle.machine.proofs.Results.{flags_tell}
use Rattle.machine.proofs.Magnitudes.{shift_left_all, shift_right_all}
use Rattle.machine.proofs.Shifts.{kept_multiple, multiple_low, multiple_high}

product : (n b : ℕ) → shifted_left n b ≡ exact 4 (signed 4 b *ℤ pos (2 ^ n)) false
unfolding shifted_left
product n b = rw (kept_multiple 4 b (2 ^ n))

range_check : (n b : ℕ) → let r = shifted_left n b in
    (flag_v r.flags ≡ false) ↔ (signed 4 r.value ≡ signed 4 b *ℤ pos (2 ^ n))
unfolding result_of
range_check n b =
    let z = signed 4 b *ℤ pos (2 ^ n) in
    let x = kept 4 z in
    let v = (flags_tell (negative 4 x) (eqb x 0) (not (fits 4 z)) false).2 in
    rw (product n b, v) (exactly z)
  where
    exactly : (z : ℤ) → (not (fits 4 z) ≡ false) ↔ (signed 4 (kept 4 z) ≡ z)
    exactly z = (
      λ e. signed-kept 4 z (omega arith) (not-false (fits 4 z) e),
      λ e. ap not (exact-fits 4 z (omega arith) e),
    )

by_0 : (b : ℕ) → b < span 4 → shifted_left 0 b ≡ plain 4 b
unfolding shifted_left
by_0 b h =
    let same : signed 4 b *ℤ pos 1 ≡ signed 4 b =
    gap_same (gap_mul (signed_gap 4 b) (gap_pos 1)) (signed_gap 4 b) (omega arith) in
    let whole : b * 1 % span 4 ≡ b = omega arith in
    rw (whole, same, signed-fits 4 b (omega arith) h)

of_0 : (n : ℕ) → shifted_left n 0 ≡ plain 4 0
unfolding shifted_left signed fits negative
of_0 n = rw (zero-mul (2 ^ n))

all_lost : (n b : ℕ) → 32 ≤ n → 0 < b → b < span 4 → shifted_left n b ≡ result_of 4 0 true false
unfolding shifted_left
all_lost n b h p l =
    let k = 2 ^ n in
    let over : fits 4 (signed 4 b *ℤ pos k) ≡ false =
    by_sign 4 b (λ t. fits 4 (signed 4 b *ℤ pos k) ≡ false)
    (λ q.
    multiple_high 4 b k (omega arith) (pow_pos n) l q
    ∙ rw (shift_right_all 4 (half 4) n h (omega arith)) (le-ltb (complement 4 b) 0 (omega arith)))
    (λ q.
    multiple_low 4 b k (omega arith) (pow_pos n) q
    ∙ rw (shift_right_all 4 (half 4 - 1) n h (omega arith)) (lt-leb b 0 p)) in
    rw (shift_left_all 4 b n h, over)

pub left_shifts : LeftShifts
unfolding whole_step I R memory_with kernel_desk ran_on shift_ran
left_shifts = record {
  product = product;
  range_check = range_check;
  by_0 = by_0;
  of_0 = of_0;
  all_lost = all_lost;
  one_by_32 = (refl, refl);
  one_by_31 = (refl, refl);
  one_by_30 = (refl, refl);
  minus_one_by_31 = (refl, refl);
  minus_one_by_32 = (refl, refl);
  two_to_30_by_2 = (refl, refl);
  five_by_30 = (refl, refl);
  minus_three_by_31 = (refl, refl);
  lowest_by_0 = (refl, refl);
  lowest_by_1 = (refl, refl);
  zero_by_32 = (refl, refl);
  one_by_minus_1 = (refl, refl);
}

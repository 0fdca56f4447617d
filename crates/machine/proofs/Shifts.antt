-- Shifts and rotations by unsigned arithmetic, for any count (document 000, 2.5; document 01, "One
-- step"; document 02, F-2): of a word, and what V of a shift to the left needs for any width.
use Prim.Native.Nat.{ℕ, suc, ◌+◌, ◌-◌, ◌*◌, ◌/◌, ◌%◌, ◌^◌, ◌≤◌, ◌<◌}
use mathlib.Core.Path.{◌≡◌, refl, sym, ap, ◌∙◌}
use mathlib.Core.Logic.{◌↔◌}
use mathlib.Core.Bool.{true, false}
use native.Mathlib.Nat.{mul_assoc, add-mul-div_right, le-div_iff_mul-le}
use native.Mathlib.Omega.{arith}
use lib.Dec.{ltb, leb}
use lib.IntN.{pos, ◌*ℤ◌}
use lib.Pow.{pow-add, pow_pos}
use Rattle.machine.specs.Words.{pick, span}
use Rattle.machine.specs.Integers.{half, negative, signed, fits, kept, plain, complement, shifted_left}
use Rattle.machine.specs.Integers.{shifted_right, shifted, rotated}
use Rattle.machine.proofs.Differences.{leb_same, gap_pos, gap_shift, gap_mul}
use Rattle.machine.proofs.Widths.{b0, signed_low_is, signed_high_is, signed_gap, kept_gap}
use Rattle.machine.proofs.Magnitudes.{with_sign_mul, with_sign-fits, kept_shift, modulo-signed}

-- ---- Shifts

module _ (a b : ℕ) where
  pub shifted-left : a < half 4 → shifted a b ≡ shifted_left a b
  unfolding shifted
  shifted-left h = rw (signed_low_is 4 a h)

  pub shifted_right_lem : half 4 ≤ a → a < span 4 → shifted a b ≡ shifted_right (span 4 - a) b
  unfolding shifted
  shifted_right_lem h l =
      let e : suc (span 4 - 1 - a) ≡ span 4 - a = omega arith in
      rw (signed_high_is 4 a h l, e)

  -- of a negative word the bits that come in are ones: its complement goes to the right
  pub shifted_right_is : b < span 4
      → shifted_right a b ≡ plain 4 (pick (negative 4 b) (span 4 - 1 - (span 4 - 1 - b) / 2 ^ a) (b / 2 ^ a))
  unfolding shifted_right
  shifted_right_is h = rw (kept_shift 4 b h (2 ^ a))

-- ---- A shift to the left as a product, for L bytes and any L

-- of the whole number the bytes are kept that the shift leaves
pub kept_multiple : (L x k : ℕ) → kept L (signed L x *ℤ pos k) ≡ x * k % span L
kept_multiple L x k =
    kept_gap L (x * k) 0 (b0 L x * k)
    (gap_shift (x * k + 0 * span L) (b0 L x * k * span L) (gap_mul (signed_gap L x) (gap_pos k)) (omega arith))

-- it fits where the number is at most the highest one, and at least the lowest one, both divided by
-- k, the fraction dropped
module _ (L x k : ℕ) (wide : 1 ≤ L) (some : 0 < k) where
  by_quotient : (m n : ℕ) → (m ≤ n / k) ↔ (m * k ≤ n)
  by_quotient m n = le-div_iff_mul-le some

  pub multiple_low : x < half L → fits L (signed L x *ℤ pos k) ≡ leb x ((half L - 1) / k)
  multiple_low h =
      let q = by_quotient x (half L - 1) in
      rw (signed_low_is L x h)
      (with_sign-fits L false (x * k) wide
      ∙ leb_same (suc (x * k)) (half L) x ((half L - 1) / k) (λ p. q.1 (omega arith)) (λ p. omega (arith, q.0 p)))

  -- a negative number is minus its complement and one more
  pub multiple_high : x < span L → half L ≤ x → fits L (signed L x *ℤ pos k) ≡ ltb (complement L x) (half L / k)
  unfolding complement
  multiple_high l h =
      let m = suc (span L - 1 - x) in
      let q = by_quotient m (half L) in
      rw (signed_high_is L x h l)
      (ap (fits L) (with_sign_mul true false m k)
      ∙ with_sign-fits L true (m * k) wide
      ∙ leb_same (m * k) (half L) m (half L / k) q.1 q.0)

-- ---- Rotations

-- the word twice over, and of that the upper half after n times to the left
pub turned : (n b : ℕ) → n ≤ 32 → b * 2 ^ n + b / 2 ^ (32 - n) ≡ b * 4294967297 / 2 ^ (32 - n)
turned n b h =
    let e : n + (32 - n) ≡ 32 = omega arith in
    let whole : 2 ^ n * 2 ^ (32 - n) ≡ 4294967296 = sym (pow-add 2 n (32 - n)) ∙ ap (λ (k : ℕ). 2 ^ k) e in
    let twice : b + b * 2 ^ n * 2 ^ (32 - n) ≡ b * 4294967297 = rw (mul_assoc, whole) (omega arith) in
    omega (arith, ap (λ (k : ℕ). k / 2 ^ (32 - n)) twice, add-mul-div_right b (b * 2 ^ n) (pow_pos (32 - n)))

pub rotated_is : (a b : ℕ) → rotated a b ≡ plain 4 (b * 4294967297 / 2 ^ (32 - a % 32) % span 4)
unfolding rotated
rotated_is a b = rw (modulo-signed 4 a 134217728 32 (omega arith) refl, turned (a % 32) b (omega arith))

-- Signed numbers by sign and magnitude, for L bytes and any L: product, quotient, extension, shifts
-- and counts by unsigned arithmetic.
use Prim.Native.Nat.{ℕ, zero, suc, ◌+◌, ◌-◌, ◌*◌, ◌/◌, ◌%◌, ◌^◌, ◌≤◌, ◌<◌}
use mathlib.Core.Path.{◌≡◌, refl, ap, ◌∙◌}
use mathlib.Core.Bool.{Bool, true, false, not, and-true}
use native.Mathlib.Nat.{mod-eq_of_lt, zero-div, div-zero, div-le_self, div-eq_of_lt, mul-mod_left, lt_of_lt_of_le}
use native.Mathlib.Nat.{pow-suc}
use native.Mathlib.Omega.{arith}
use borrow.Author.Tests.{le-leb, lt-ltb}
use lib.Dec.{ltb, leb}
use lib.IntN.{ℤ, pos, neg_ℤ, ◌*ℤ◌}
use lib.Pow.{pow-add, pow_mono}
use lib.Signed.{quot_z, shr_z}
use Rattle.machine.specs.Words.{pick, span}
use Rattle.machine.specs.Integers.{half, negative, signed, fits, modulo, kept}
use Rattle.machine.proofs.Differences.{leb_same, gap_pos, gap_shift, gap_same, gap_neg, gap_mul, gap_modulo}
use Rattle.machine.proofs.Widths.{b0, span_positive, span_wider, half_twice, by_sign, signed_gap, signed_high}
use Rattle.machine.proofs.Widths.{signed_low_is, signed_high_is, fits_gap, kept_gap}

-- ---- Sign and magnitude

abbrev pub with_sign : Bool → ℕ → ℤ
with_sign s n = pick s (neg_ℤ (pos n)) (pos n)

abbrev pub differ : Bool → Bool → Bool
differ s t = pick s (not t) t

unfoldable pub magnitude : ℕ → ℕ → ℕ
magnitude L x = pick (negative L x) (span L - x) x

pub signed_by_magnitude : (L x : ℕ) → x < span L → signed L x ≡ with_sign (negative L x) (magnitude L x)
unfolding magnitude
signed_by_magnitude L x h =
    by_sign L x (λ t. signed L x ≡ with_sign t (pick t (span L - x) x))
    (λ q. gap_same (signed_high L x q) (gap_neg (gap_pos (span L - x))) (omega arith))
    (λ q. signed_low_is L x q)

pub magnitude-half : (L x : ℕ) → 1 ≤ L → x < span L → magnitude L x ≤ half L
unfolding magnitude
magnitude-half L x l h =
    by_sign L x (λ t. pick t (span L - x) x ≤ half L) (λ q. omega (arith, half_twice L l)) (λ q. omega arith)

pub with_sign_mul : (s t : Bool) (m n : ℕ) → with_sign s m *ℤ with_sign t n ≡ with_sign (differ s t) (m * n)
with_sign_mul true true m n =
    gap_same (gap_mul (gap_neg (gap_pos m)) (gap_neg (gap_pos n))) (gap_pos (m * n)) (omega arith)
with_sign_mul true false m n =
    gap_same (gap_mul (gap_neg (gap_pos m)) (gap_pos n)) (gap_neg (gap_pos (m * n))) (omega arith)
with_sign_mul false true m n =
    gap_same (gap_mul (gap_pos m) (gap_neg (gap_pos n))) (gap_neg (gap_pos (m * n))) (omega arith)
with_sign_mul false false m n = refl

pub with_sign_quot : (s t : Bool) (m n : ℕ) → quot_z (with_sign s m) (with_sign t n) ≡ with_sign (differ s t) (m / n)
with_sign_quot true true zero zero = refl
with_sign_quot true true zero (suc n) = rw zero-div
with_sign_quot true true (suc m) zero = rw div-zero
with_sign_quot true true (suc m) (suc n) = refl
with_sign_quot true false zero n = rw zero-div
with_sign_quot true false (suc m) n = refl
with_sign_quot false true m zero = rw div-zero
with_sign_quot false true m (suc n) = refl
with_sign_quot false false m n = refl

pub with_sign-fits : (L : ℕ) (s : Bool) (n : ℕ) → 1 ≤ L
    → fits L (with_sign s n) ≡ pick s (leb n (half L)) (ltb n (half L))
with_sign-fits L true n l =
    fits_gap L (gap_neg (gap_pos n))
    ∙ rw (lt-ltb 0 (half L + n) (omega (arith, half_twice L l, span_positive L)), and-true)
    (leb_same n (0 + half L) n (half L) (omega arith) (omega arith))
with_sign-fits L false n l =
    fits_gap L (gap_pos n)
    ∙ rw (le-leb 0 (n + half L) (omega arith))
    (leb_same (suc n) (half L + 0) (suc n) (half L) (omega arith) (omega arith))

pub with_sign-kept : (L : ℕ) (s : Bool) (n : ℕ) → n ≤ span L → kept L (with_sign s n) ≡ pick s (span L - n) n % span L
with_sign-kept L true n h =
    kept_gap L (span L - n) 0 1 (gap_shift (span L - n + 0 * span L) (1 * span L) (gap_neg (gap_pos n)) (omega arith))
with_sign-kept L false n h = kept_gap L n 0 0 (gap_shift (n + 0 * span L) (0 * span L) (gap_pos n) (omega arith))

-- ---- Product and quotient

module _ (L a b : ℕ) (fa : a < span L) (fb : b < span L) where
  pub product_by_magnitude : signed L b *ℤ signed L a ≡ with_sign (differ (negative L b) (negative L a))
      (magnitude L b * magnitude L a)
  product_by_magnitude =
      rw (signed_by_magnitude L b fb, signed_by_magnitude L a fa)
      (with_sign_mul (negative L b) (negative L a) (magnitude L b) (magnitude L a))

  pub quotient_by_magnitude : quot_z (signed L b) (signed L a) ≡ with_sign (differ (negative L b) (negative L a))
      (magnitude L b / magnitude L a)
  quotient_by_magnitude =
      rw (signed_by_magnitude L b fb, signed_by_magnitude L a fa)
      (with_sign_quot (negative L b) (negative L a) (magnitude L b) (magnitude L a))

module _ (L a b : ℕ) (wide : 1 ≤ L) (fa : a < span L) (fb : b < span L) where
  pub product_fits : fits L (signed L b *ℤ signed L a)
      ≡ pick (differ (negative L b) (negative L a)) (leb (magnitude L b * magnitude L a) (half L))
      (ltb (magnitude L b * magnitude L a) (half L))
  product_fits =
      rw (product_by_magnitude L a b fa fb)
      (with_sign-fits L (differ (negative L b) (negative L a)) (magnitude L b * magnitude L a) wide)

  pub quotient_fits_by_magnitude : fits L (quot_z (signed L b) (signed L a))
      ≡ pick (differ (negative L b) (negative L a)) (leb (magnitude L b / magnitude L a) (half L))
      (ltb (magnitude L b / magnitude L a) (half L))
  quotient_fits_by_magnitude =
      rw (quotient_by_magnitude L a b fa fb)
      (with_sign-fits L (differ (negative L b) (negative L a)) (magnitude L b / magnitude L a) wide)

  pub kept_quotient : kept L (quot_z (signed L b) (signed L a))
      ≡ pick (differ (negative L b) (negative L a)) (span L - magnitude L b / magnitude L a)
      (magnitude L b / magnitude L a) % span L
  kept_quotient =
      rw (quotient_by_magnitude L a b fa fb)
      (with_sign-kept L (differ (negative L b) (negative L a)) (magnitude L b / magnitude L a)
      (omega (arith, half_twice L wide, magnitude-half L b wide fb, div-le_self (magnitude L b) (magnitude L a))))

-- ---- Extension, shift to the right, counts

module _ (L x : ℕ) (fx : x < span L) where
  pub kept_extension : (M : ℕ) → L ≤ M → kept M (signed L x) ≡ pick (negative L x) (x + (span M - span L)) x
  unfolding modulo
  kept_extension M h =
      let w = span_wider L M h in
      by_sign L x (λ t. kept M (signed L x) ≡ pick t (x + (span M - span L)) x)
      (λ q.
      kept_gap M (x + (span M - span L)) 0 1
      (gap_shift (x + (span M - span L) + 0 * span M) (1 * span M) (signed_high L x q) (omega arith))
      ∙ mod-eq_of_lt (omega arith))
      (λ q. rw (signed_low_is L x q) (mod-eq_of_lt (omega arith)))

  pub kept_shift : (d : ℕ) → kept L (shr_z (signed L x) d) ≡ pick (negative L x) (span L - 1 - (span L - 1 - x) / d)
      (x / d)
  unfolding modulo
  kept_shift d =
      by_sign L x (λ t. kept L (shr_z (signed L x) d) ≡ pick t (span L - 1 - (span L - 1 - x) / d) (x / d))
      (λ q.
      let small : (span L - 1 - x) / d < span L = omega (arith, div-le_self (span L - 1 - x) d) in
      rw (signed_high_is L x q fx, mod-eq_of_lt small))
      (λ q.
      let small : x / d < span L = omega (arith, div-le_self x d) in
      rw (signed_low_is L x q) (mod-eq_of_lt small))

-- a residue by a divisor of the span needs no sign: ROT's count is L = 4, d = 32
pub modulo-signed : (L x c d : ℕ) → 0 < d → span L ≡ c * d → modulo d (signed L x) ≡ x % d
modulo-signed L x c d h e =
    gap_modulo d h x 0 (b0 L x * c)
    (gap_shift (x + 0 * d) (b0 L x * c * d) (signed_gap L x) (rw e (omega arith)))

-- ---- Shifts by the whole width or more

pub span_bits : (L : ℕ) → span L ≡ 2 ^ (8 * L)
span_bits zero = refl
span_bits (suc L) =
    let e : 8 * suc L ≡ 8 * L + 8 = omega arith in
    rw (e, pow-add 2 (8 * L) 8, pow-suc 256 L, span_bits L)

module _ (L x n : ℕ) (all : 8 * L ≤ n) where
  pub shift_left_all : x * 2 ^ n % span L ≡ 0
  shift_left_all =
      let e : n ≡ n - 8 * L + 8 * L = omega arith in
      let q : x * 2 ^ n ≡ x * 2 ^ (n - 8 * L) * span L =
      ap (λ (k : ℕ). x * 2 ^ k) e ∙ rw (pow-add 2 (n - 8 * L) (8 * L), ← span_bits L) (omega arith) in
      rw q (mul-mod_left (x * 2 ^ (n - 8 * L)) (span L))

  pub shift_right_all : x < span L → x / 2 ^ n ≡ 0
  shift_right_all h = div-eq_of_lt (lt_of_lt_of_le (rw (span_bits L) at h) (pow_mono all))

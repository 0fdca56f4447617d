-- Kept results of sum, difference, product and quotient on numbers of L bytes, for any L: their
-- bytes, carry and borrow, and the one quotient that does not fit (document 000, 2.5.2 to 2.5.5;
-- document 01, "One step").
use Prim.Native.Nat.{ℕ, suc, ◌+◌, ◌-◌, ◌*◌, ◌/◌, ◌%◌, ◌≤◌, ◌<◌}
use mathlib.Core.Path.{◌≡◌, refl, ◌∙◌}
use mathlib.Core.Bool.{Bool, true, false, not, ◌&&◌}
use native.Mathlib.Nat.{mod-eq_of_lt, mod-eq-sub-mod, div-le_self, div-lt_self, div-one}
use native.Mathlib.Omega.{arith}
use native.Mathlib.Decide.{dec_le, dec_lt, ℕ_discrete}
use borrow.Author.Tests.{le-leb, lt-leb, le-ltb, lt-ltb, eq-eqb, eqb-true}
use lib.Dec.{ltb, leb, eqb}
use lib.IntN.{pos, ◌+ℤ◌, ◌-ℤ◌, ◌*ℤ◌}
use lib.Signed.{quot_z}
use Rattle.machine.specs.Words.{span}
use Rattle.machine.specs.State.{bit, flags, flag_n, flag_z, flag_v, flag_c}
use Rattle.machine.specs.Integers.{half, signed, fits, modulo, kept, result_of, added, subtracted, divided}
use Rattle.machine.proofs.Differences.{gap_shift, gap_add, gap_diff, gap_mul}
use Rattle.machine.proofs.Widths.{b0, span_positive, half_twice, signed_gap, signed_low_is, signed_high_is}
use Rattle.machine.proofs.Widths.{pos_fits, pos_over, neg_fits, kept_gap}

-- ---- Flags

-- each of the four is told by its own bit
pub flags_tell : (n z v c : Bool) → let f = flags n z v c in
    (flag_n f ≡ n) × (flag_z f ≡ z) × (flag_v f ≡ v) × (flag_c f ≡ c)
flags_tell true true true true = (refl, refl, refl, refl)
flags_tell true true true false = (refl, refl, refl, refl)
flags_tell true true false true = (refl, refl, refl, refl)
flags_tell true true false false = (refl, refl, refl, refl)
flags_tell true false true true = (refl, refl, refl, refl)
flags_tell true false true false = (refl, refl, refl, refl)
flags_tell true false false true = (refl, refl, refl, refl)
flags_tell true false false false = (refl, refl, refl, refl)
flags_tell false true true true = (refl, refl, refl, refl)
flags_tell false true true false = (refl, refl, refl, refl)
flags_tell false true false true = (refl, refl, refl, refl)
flags_tell false true false false = (refl, refl, refl, refl)
flags_tell false false true true = (refl, refl, refl, refl)
flags_tell false false true false = (refl, refl, refl, refl)
flags_tell false false false true = (refl, refl, refl, refl)
flags_tell false false false false = (refl, refl, refl, refl)

-- ---- Kept bytes

module _ (L a b : ℕ) where
  pub kept_sum : kept L (signed L b +ℤ signed L a) ≡ (b + a) % span L
  kept_sum =
      kept_gap L (b + a) 0 (b0 L b + b0 L a)
      (gap_shift (b + a + 0 * span L) ((b0 L b + b0 L a) * span L) (gap_add (signed_gap L b) (signed_gap L a))
      (omega arith))

  pub kept_difference : a < span L → kept L (signed L b -ℤ signed L a) ≡ (b + (span L - a)) % span L
  kept_difference h =
      kept_gap L (b + (span L - a)) (b0 L a) (b0 L b + 1)
      (gap_shift (b + (span L - a) + b0 L a * span L) ((b0 L b + 1) * span L)
      (gap_diff (signed_gap L b) (signed_gap L a)) (omega arith))

  pub kept_product : kept L (signed L b *ℤ signed L a) ≡ b * a % span L
  kept_product =
      kept_gap L (b * a) (b0 L b * span L * b0 L a) (b * b0 L a + b0 L b * a)
      (gap_shift (b * a + b0 L b * span L * b0 L a * span L) ((b * b0 L a + b0 L b * a) * span L)
      (gap_mul (signed_gap L b) (signed_gap L a))
      (omega arith))

-- ---- Carry and borrow

-- a number below 2 * m by its residue
pub residue_once : (m n : ℕ) → n < m + m → n ≡ n % m + bit (leb m n) m
residue_once m n h = go (dec_le m n)
  where
    go : Dec (m ≤ n) → n ≡ n % m + bit (leb m n) m
    go (yes p) = let q : n - m < m = omega arith in rw (le-leb m n p, mod-eq-sub-mod p, mod-eq_of_lt q) (omega arith)
    go (no p) = let q : n < m = omega arith in rw (lt-leb m n q, mod-eq_of_lt q) (omega arith)

module _ (L a b : ℕ) (fa : a < span L) (fb : b < span L) where
  pub sum_carry : b + a ≡ (added L a b).value + bit (leb (span L) (b + a)) (span L)
  unfolding added result_of
  sum_carry = rw (kept_sum L a b) (residue_once (span L) (b + a) (omega arith))

  pub difference_borrow : b + bit (ltb b a) (span L) ≡ (subtracted L a b).value + a
  unfolding subtracted result_of
  difference_borrow = rw (kept_difference L a b fa) (go (b + (span L - a)) refl (dec_lt b a))
    where
      go : (n : ℕ) → b + (span L - a) ≡ n → Dec (b < a) → b + bit (ltb b a) (span L) ≡ n % span L + a
      go n e (yes p) =
          rw (lt-ltb b a p) (omega (
            arith,
            rw (lt-leb (span L) n (omega arith))
                at (residue_once (span L) n (omega arith)),
          ))
      go n e (no p) =
          rw (le-ltb b a (omega arith))
          (omega (arith, rw (le-leb (span L) n (omega arith)) at (residue_once (span L) n (omega arith))))

-- ---- Quotient

not_both : (s t : Bool) → (s ≡ true → t ≡ true → ⊥) → true ≡ not (s && t)
not_both true true f = absurd (f refl refl)
not_both true false f = refl
not_both false t f = refl

module _ (L a b : ℕ) (wide : 1 ≤ L) (fa : a < span L) (fb : b < span L) where
  -- only lowest by -1 does not fit
  pub quotient_fits : fits L (quot_z (signed L b) (signed L a)) ≡ not (eqb b (half L) && eqb a (span L - 1))
  quotient_fits = go (dec_lt b (half L)) (dec_lt a (half L))
    where
      twice : half L + half L ≡ span L
      twice = half_twice L wide

      others : (b ≡ half L → a ≡ span L - 1 → ⊥) → true ≡ not (eqb b (half L) && eqb a (span L - 1))
      others f =
          not_both (eqb b (half L)) (eqb a (span L - 1)) (λ p q. f (eqb-true b (half L) p) (eqb-true a (span L - 1) q))

      by_minus_one : a ≡ span L - 1 → half L ≤ b → Dec (b ≡ half L)
          → fits L (pos (span L - b)) ≡ not (eqb b (half L) && eqb a (span L - 1))
      by_minus_one e h (yes q) =
          rw (eq-eqb b (half L) q, eq-eqb a (span L - 1) e) (pos_over L (span L - b) (omega (arith, twice)))
      by_minus_one e h (no q) =
          pos_fits L (span L - b) (omega (arith, twice)) ∙ others (λ x y. q x)

      both_high : half L ≤ b → half L ≤ a → Dec (a ≡ span L - 1)
          → fits L (pos (suc (span L - 1 - b) / suc (span L - 1 - a))) ≡ not (eqb b (half L) && eqb a (span L - 1))
      both_high h k (yes q) =
          let d : suc (span L - 1 - a) ≡ 1 = omega arith in
          let n : suc (span L - 1 - b) ≡ span L - b = omega arith in
          rw (d, n, div-one) (by_minus_one q h (ℕ_discrete b (half L)))
      both_high h k (no q) =
          let d : 1 < suc (span L - 1 - a) = omega arith in
          let n : 0 < suc (span L - 1 - b) = omega arith in
          pos_fits L (suc (span L - 1 - b) / suc (span L - 1 - a)) (omega (arith, twice, div-lt_self n d)) ∙ others
          (λ x y. q y)

      go : Dec (b < half L) → Dec (a < half L)
          → fits L (quot_z (signed L b) (signed L a)) ≡ not (eqb b (half L) && eqb a (span L - 1))
      go (yes p) (yes q) =
          rw (signed_low_is L b p, signed_low_is L a q)
          (pos_fits L (b / a) (omega (arith, div-le_self b a)) ∙ others (omega arith))
      go (yes p) (no q) =
          rw (signed_low_is L b p, signed_high_is L a (omega arith) fa)
          (neg_fits L (b / suc (span L - 1 - a)) wide (omega (arith, div-le_self b (suc (span L - 1 - a)))) ∙ others
          (omega arith))
      go (no p) (yes q) =
          rw (signed_high_is L b (omega arith) fb, signed_low_is L a q)
          (neg_fits L (suc (span L - 1 - b) / a) wide (omega (arith, twice, div-le_self (suc (span L - 1 - b)) a))
          ∙ others (omega (arith, twice)))
      go (no p) (no q) =
          rw (signed_high_is L b (omega arith) fb, signed_high_is L a (omega arith) fa)
          (both_high (omega arith) (omega arith) (ℕ_discrete a (span L - 1)))

-- lowest by -1 gives lowest
pub lowest_kept : (L : ℕ) → 1 ≤ L → kept L (quot_z (signed L (half L)) (signed L (span L - 1))) ≡ half L
unfolding modulo
lowest_kept L wide =
    let twice = half_twice L wide in
    let some = span_positive L in
    let d : suc (span L - 1 - (span L - 1)) ≡ 1 = omega arith in
    let n : suc (span L - 1 - half L) ≡ half L = omega arith in
    let small : half L < span L = omega arith in
    rw (
      signed_high_is L (half L) (omega arith) small,
      signed_high_is L (span L - 1) (omega arith) (omega arith),
      d,
      n,
      div-one,
    ) (mod-eq_of_lt small)

pub divided_lowest : (L : ℕ) → 1 ≤ L → (divided L (span L - 1) (half L)).value ≡ half L
unfolding divided result_of
divided_lowest L wide = lowest_kept L wide

-- Signed order, and overflow of sum and difference, by unsigned arithmetic on biased numbers of L
-- bytes, for any L.
use Prim.Native.Nat.{ℕ, suc, ◌+◌, ◌-◌, ◌%◌, ◌≤◌, ◌<◌}
use mathlib.Core.Path.{◌≡◌, ap₂, ◌∙◌}
use mathlib.Core.Bool.{◌&&◌}
use native.Mathlib.Nat.{mod-eq_of_lt, mod-eq-sub-mod}
use native.Mathlib.Omega.{arith}
use native.Mathlib.Decide.{dec_lt}
use lib.Dec.{ltb, leb}
use lib.IntN.{◌+ℤ◌, ◌-ℤ◌}
use lib.Signed.{lt_z}
use Rattle.machine.specs.Words.{span}
use Rattle.machine.specs.Integers.{half, signed, fits}
use Rattle.machine.proofs.Differences.{leb_same, Gap, gap_shift, gap_add, gap_diff, gap_lt_z}
use Rattle.machine.proofs.Widths.{half_twice, signed_low, signed_high, fits_gap}

-- ---- Biased numbers

unfoldable pub biased : ℕ → ℕ → ℕ
biased L x = (x + half L) % span L

-- the signed number, and half the span more
pub biased_gap : (L x : ℕ) → 1 ≤ L → x < span L → Gap (signed L x) (biased L x) (half L)
unfolding biased
biased_gap L x wide h = go (dec_lt x (half L)) (half_twice L wide)
  where
    go : Dec (x < half L) → half L + half L ≡ span L → Gap (signed L x) ((x + half L) % span L) (half L)
    go (yes p) twice =
        let small : x + half L < span L = omega arith in
        rw (mod-eq_of_lt small) (gap_shift (x + half L) (half L) (signed_low L x p) (omega arith))
    go (no p) twice =
        let over : span L ≤ x + half L = omega arith in
        let small : x + half L - span L < span L = omega arith in
        rw (mod-eq-sub-mod over, mod-eq_of_lt small)
        (gap_shift (x + half L - span L) (half L) (signed_high L x (omega arith)) (omega arith))

module _ (L a b : ℕ) (wide : 1 ≤ L) (fa : a < span L) (fb : b < span L) where
  pub biased_order : lt_z (signed L a) (signed L b) ≡ ltb (biased L a) (biased L b)
  biased_order =
      gap_lt_z (biased_gap L a wide fa) (biased_gap L b wide fb)
      ∙ leb_same (suc (biased L a + half L)) (biased L b + half L) (suc (biased L a)) (biased L b) (omega arith)
      (omega arith)

  pub biased_sum_fits : fits L (signed L b +ℤ signed L a)
      ≡ (leb (half L) (biased L b + biased L a) && ltb (biased L b + biased L a) (half L + span L))
  biased_sum_fits =
      let twice = half_twice L wide in
      let s = biased L b + biased L a in
      fits_gap L (gap_add (biased_gap L b wide fb) (biased_gap L a wide fa))
      ∙ ap₂ ◌&&◌
      (leb_same (half L + half L) (s + half L) (half L) s (omega arith) (omega arith))
      (leb_same (suc s) (half L + (half L + half L)) (suc s) (half L + span L) (omega arith) (omega arith))

  pub biased_difference_fits : fits L (signed L b -ℤ signed L a)
      ≡ (leb (biased L a) (biased L b + half L) && ltb (biased L b) (half L + biased L a))
  biased_difference_fits =
      let x = biased L a in
      let y = biased L b in
      fits_gap L (gap_diff (biased_gap L b wide fb) (biased_gap L a wide fa))
      ∙ ap₂ ◌&&◌
      (leb_same (half L + x) (y + half L + half L) x (y + half L) (omega arith) (omega arith))
      (leb_same (suc (y + half L)) (half L + (half L + x)) (suc y) (half L + x) (omega arith) (omega arith))

-- Patterns of NaNs, once for both formats: how a pattern and a number are known to be no number.
use Rattle.std.proofs.Common.{◌≡◌, ℕ, ◌*◌, ◌%◌, ◌<◌, ◌≤◌, Bool, true, false, not, ◌&&◌, T, eqb, sym, refl, ap, ◌∙◌, subst, le-ltb, lt-ltb}
use lib.Dec.{eqb_refl}
use lib.Ieee.{Float, nan, inf, fin, Format, binary32, binary64, of_bits, to_bits, div, ne, is_nan, nan_bits}
use lib.Ieee.{ones, hid, top, up, down}
use lib.Ieee.Bits.{is_true, nan_bits_above, nan_bits_is}
use lib.Ieee.Compare.{differs_from_itself}

-- ---- Patterns: without its sign, a NaN's is above the infinity's

is_nan_lem : (x : Float) → is_nan x ≡ true → x ≡ nan
unfolding is_nan
is_nan_lem nan h = refl
is_nan_lem (inf s) h = absurd (subst T (sym h) tt)
is_nan_lem (fin s m e) h = absurd (subst T (sym h) tt)

zero_by_zero : (f : Format) → div f (of_bits f 0) (of_bits f 0) ≡ nan
unfolding div of_bits
zero_by_zero binary32 = refl
zero_by_zero binary64 = refl

pub nan_above : (f : Format) (n : ℕ) → ones f * hid f < n % top f → div f (of_bits f 0) (of_bits f 0) ≡ of_bits f n
nan_above f n h =
    zero_by_zero f ∙ sym (is_nan_lem (of_bits f n) (sym (nan_bits_is f n) ∙ nan_bits_above f n ∙ lt-ltb _ _ h))

pub no_nan_below : (f : Format) (n : ℕ) → n % top f ≤ ones f * hid f → T (not (nan_bits f n))
no_nan_below f n h = subst (λ (b : Bool). T (not b)) (sym (nan_bits_above f n ∙ le-ltb _ _ h)) tt

-- ---- Numbers: only a NaN differs from itself

same_as_itself : (n : ℕ) → eqb n n ≡ true
same_as_itself n = is_true (eqb n n) (eqb_refl n)

pub differs_if_nan : (x : Float) → ne x x ≡ is_nan x
unfolding ne is_nan
differs_if_nan nan = refl
differs_if_nan (inf true) = refl
differs_if_nan (inf false) = refl
differs_if_nan (fin true m e) = ap (λ (b : Bool). not (b && true)) (same_as_itself (m * up e * down e))
differs_if_nan (fin false m e) = ap (λ (b : Bool). not (b && true)) (same_as_itself (m * up e * down e))

pub same_nan_bits : (f : Format) (x : Float) → ne x x ≡ true → to_bits f nan ≡ to_bits f x
same_nan_bits f x h = sym (ap (to_bits f) (differs_from_itself x (subst T (sym h) tt)))

pub no_nan : (x : Float) → ne x x ≡ false → T (not (is_nan x))
no_nan x h = subst (λ (b : Bool). T (not b)) (sym h ∙ differs_if_nan x) tt

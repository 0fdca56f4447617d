-- The five cases of document 000, 1.1.3, from s, e and t.
use Prim.Native.Nat.{ℕ, zero, suc, ◌+◌, ◌-◌, ◌*◌, ◌/◌, ◌%◌, ◌^◌, ◌≤◌, ◌<◌}
use mathlib.Core.Path.{◌≡◌, refl, sym, ap, ◌∙◌}
use mathlib.Core.Bool.{Bool, true, false, cond}
use native.Mathlib.Nat.{mod-eq_of_lt, mul_assoc, mul_comm, mul-one, mul_right_comm, pow-suc, add_assoc, zero-add, mod-lt}
use native.Mathlib.Nat.{div-lt_iff_lt-mul, div-add-mod', add-mod_left, mul-add-mod_self_left}
use native.Mathlib.Omega.{arith}
use native.Mathlib.Decide.{dec_lt}
use borrow.Author.Tests.{le-leb, lt-leb, ne_eqb}
use lib.Dec.{eqb}
use lib.Arith.{digits_lt, digits_div, digits_mod}
use lib.Pow.{pow-add, pow_pos}
use lib.Ieee.{Float, nan, inf, fin, Format, top, up, down, odd, of_fields, of_bits, prec, low, hid, ones}
use lib.Ieee.Exact.{HasValue, odd_sign}
use Rattle.machine.specs.declared.Kind.{Kind}
use Rattle.machine.specs.declared.Kind.TheVariants.{F, D}
use Rattle.machine.specs.Words.{kind_length, span}
use Rattle.machine.specs.State.{bit}
use Rattle.machine.specs.Floats.{format_of, number_of}
use Rattle.floatlaws.specs.FloatingNumbers.{m, n, e_max, e_star, bits_from, FromFields}
use Rattle.floatlaws.proofs.Numbers.{width}

module _ (f : Format) (e t : ℕ) (E : e < suc (ones f)) (H : t < hid f) where
  rest : e * hid f + t < top f
  rest = rw (mul_comm (hid f) (suc (ones f))) (digits_lt E H)

  fields_of : (s : Bool) → of_bits f (bit s (top f) + (e * hid f + t)) ≡ of_fields f s e t
  unfolding of_bits
  fields_of true =
      rw (
        le-leb (top f) (top f + (e * hid f + t)) (omega arith),
        add-mod_left (top f) (e * hid f + t),
        mod-eq_of_lt rest,
        digits_div e H,
        mul-add-mod_self_left (hid f) (suc (ones f)) (e * hid f + t),
        digits_mod e H,
      )
  fields_of false =
      rw (
        zero-add (e * hid f + t),
        lt-leb (top f) (e * hid f + t) rest,
        mod-eq_of_lt rest,
        digits_div e H,
        digits_mod e H,
      )

  in_width : (s : Bool) → bit s (top f) + (e * hid f + t) < 2 * top f
  in_width true = let h = rest in omega arith
  in_width false = let h = rest in omega arith

number_fields : (k : Kind) (s : Bool) (e t : ℕ) → e < suc (ones (format_of k)) → t < hid (format_of k)
    → number_of k (bit s (top (format_of k)) + e * hid (format_of k) + t) ≡ of_fields (format_of k) s e t
number_fields k s e t h q =
    let f = format_of k in
    let small : bit s (top f) + (e * hid f + t) < span (kind_length k) = rw (width k) at (in_width f e t h q s) in
    rw (add_assoc (bit s (top f)) (e * hid f) t, mod-eq_of_lt small) (fields_of f e t h q s)

-- the fields' weights are the format's
fields : (k : Kind) (s : Bool) (e t : ℕ) → e ≤ e_max k → t < 2 ^ n k
    → number_of k (bits_from k s e t) ≡ of_fields (format_of k) s e t
fields F s e t h q = number_fields F s e t (omega arith) q
fields D s e t h q = number_fields D s e t (omega arith) q

at_top : (k : Kind) (s : Bool) (t : ℕ) → of_fields (format_of k) s (e_max k) t ≡ cond (eqb t 0) (inf s) nan
unfolding of_fields
at_top F s t = refl
at_top D s t = refl

pub case_a : (k : Kind) (s : Bool) (t : ℕ) → 0 < t → t < 2 ^ n k → number_of k (bits_from k s (e_max k) t) ≡ nan
case_a k s t h q =
    fields k s (e_max k) t (omega arith) q ∙ at_top k s t ∙ rw (ne_eqb t 0 (λ z. omega arith))

pub case_b : (k : Kind) (s : Bool) → number_of k (bits_from k s (e_max k) 0) ≡ inf s
case_b k s = fields k s (e_max k) 0 (omega arith) (pow_pos (n k)) ∙ at_top k s 0

lowest : (k : Kind) → low (format_of k) ≡ n k + (e_star k - 1)
lowest F = refl
lowest D = refl

-- cases c and d, with the format's own numbers
low_value : (f : Format) (s : Bool) (t : ℕ) → HasValue (of_fields f s 0 t) s t (2 ^ low f)
unfolding of_fields
low_value f s t =
    let v : HasValue (of_fields f s 0 t) s (t * 1) (2 ^ low f) = odd_sign (prec f) s t 0 (low f) in
    rw (mul-one t) at v

pub case_c_and_d : (k : Kind) (s : Bool) (t : ℕ) → t < 2 ^ n k
    → HasValue (number_of k (bits_from k s 0 t)) s t (2 ^ (n k + (e_star k - 1)))
case_c_and_d k s t h = rw (fields k s 0 t (omega arith) h, ← lowest k) (low_value (format_of k) s t)

-- the same fraction, with both its numbers doubled
doubled : (x : Float) (s : Bool) (a c : ℕ) → HasValue x s a c → HasValue x s (a * 2) (c * 2)
doubled nan s a c v = v
doubled (inf t) s a c v = v
doubled (fin t g e) s a c v = (v.0, rw (← mul_assoc (g * up e) c 2, v.1) (mul_right_comm a (down e) 2))

once_more : (k : Kind) → suc (low (format_of k)) ≡ n k + e_star k
once_more F = refl
once_more D = refl

leading : (k : Kind) → hid (format_of k) ≡ 2 ^ n k
leading F = refl
leading D = refl

topmost : (k : Kind) → e_max k ≡ ones (format_of k)
topmost F = refl
topmost D = refl

-- case e
high_value : (f : Format) (s : Bool) (x t : ℕ) → suc x < ones f
    → HasValue (of_fields f s (suc x) t) s ((hid f + t) * 2 ^ suc x) (2 ^ suc (low f))
unfolding of_fields
high_value f s x t h =
    let v = doubled (odd (prec f) s (hid f + t) x (low f)) s ((hid f + t) * 2 ^ x) (2 ^ low f)
    (odd_sign (prec f) s (hid f + t) x (low f)) in
    rw (
      ne_eqb (suc x) (ones f) (λ z. omega arith),
      pow-suc 2 x,
      pow-suc 2 (low f),
      ← mul_assoc (hid f + t) (2 ^ x) 2,
    ) v

pub case_e : (k : Kind) (s : Bool) (e t : ℕ) → 0 < e → e < e_max k → t < 2 ^ n k
    → HasValue (number_of k (bits_from k s e t)) s ((2 ^ n k + t) * 2 ^ e) (2 ^ (n k + e_star k))
case_e k s zero t p h q = absurd (omega arith)
case_e k s (suc x) t p h q =
    rw (fields k s (suc x) t (omega arith) q, ← leading k, ← once_more k)
    (high_value (format_of k) s x t (omega (arith, topmost k)))

two_tops : (k : Kind) → span (kind_length k) ≡ 2 ^ (m k + n k) + 2 ^ (m k + n k)
two_tops F = refl
two_tops D = refl

unsigned : (k : Kind) (s : Bool) (x y : ℕ) → y < 2 ^ (m k + n k) → x ≡ bit s (2 ^ (m k + n k)) + y → FromFields k x
unsigned k s x y h q = record {
  s = s;
  e = y / 2 ^ n k;
  t = y % 2 ^ n k;
  e_range =
      let l : y < 2 ^ m k * 2 ^ n k = rw (pow-add 2 (m k) (n k)) at h in
      let r : y / 2 ^ n k < 2 ^ m k = (div-lt_iff_lt-mul (pow_pos (n k))).1 l in
      omega arith;
  t_range = mod-lt y (pow_pos (n k));
  pattern =
      q
      ∙ ap (λ (z : ℕ). bit s (2 ^ (m k + n k)) + z) (sym (div-add-mod' y (2 ^ n k)))
      ∙ sym (add_assoc (bit s (2 ^ (m k + n k))) (y / 2 ^ n k * 2 ^ n k) (y % 2 ^ n k));
}

pub all_cases : (k : Kind) (x : ℕ) → x < span (kind_length k) → FromFields k x
all_cases k x h = go (dec_lt x (2 ^ (m k + n k)))
  where
    go : Dec (x < 2 ^ (m k + n k)) → FromFields k x
    go (yes p) = unsigned k false x x p (sym (zero-add x))
    go (no p) =
        let l : x < 2 ^ (m k + n k) + 2 ^ (m k + n k) = rw (two_tops k) at h in
        unsigned k true x (x - 2 ^ (m k + n k)) (omega arith) (omega arith)

-- The highest bit of a number of one size turned over: that adds half the span, modulo the span.
use Rattle.std.proofs.Common.{◌≡◌, ℕ, ◌+◌, ◌-◌, ◌*◌, ◌%◌, ◌^◌, ◌<◌, ◌≤◌, sym, ◌∙◌, ap₂, add-zero, mod-eq_of_lt, arith, pow_pos}
use native.Mathlib.Nat.{mod-eq-sub-mod}
use native.Mathlib.Decide.{dec_lt}
use lib.Bits.{bit_xor, xor_comm, xor_shifted, xor_block, xor_zero_r}
use Rattle.machine.specs.declared.Size.{Size}
use Rattle.machine.specs.declared.Size.TheVariants.{B, H, W}
use Rattle.machine.specs.Words.{length_of, span}
use Rattle.machine.specs.Integers.{half}

turned_over : (k x : ℕ) → x < 2 ^ k + 2 ^ k → bit_xor x (2 ^ k) ≡ (x + 2 ^ k) % (2 ^ k + 2 ^ k)
turned_over k x h = go (dec_lt x (2 ^ k))
  where
    one : 1 * 2 ^ k ≡ 2 ^ k
    one = omega arith

    go : Dec (x < 2 ^ k) → bit_xor x (2 ^ k) ≡ (x + 2 ^ k) % (2 ^ k + 2 ^ k)
    go (yes p) =
        let small : x + 2 ^ k < 2 ^ k + 2 ^ k = omega arith in
        let e : bit_xor x (2 ^ k) ≡ 2 ^ k + x = xor_comm x (2 ^ k) ∙ (rw one at (xor_shifted 1 k x p)) in
        rw (e, mod-eq_of_lt small) (omega arith)
    go (no p) =
        let over : 2 ^ k + 2 ^ k ≤ x + 2 ^ k = omega arith in
        let rest : x + 2 ^ k - (2 ^ k + 2 ^ k) < 2 ^ k + 2 ^ k = omega (arith, pow_pos k) in
        let whole : x ≡ 1 * 2 ^ k + (x - 2 ^ k) = omega arith in
        let e : bit_xor x (2 ^ k) ≡ x - 2 ^ k =
        ap₂ bit_xor whole (sym one ∙ sym (add-zero (1 * 2 ^ k)))
        ∙ xor_block k 1 1 (x - 2 ^ k) 0 (omega arith) (pow_pos k)
        ∙ rw xor_zero_r (omega arith) in
        rw (e, mod-eq-sub-mod over, mod-eq_of_lt rest) (omega arith)

pub half_turned : (s : Size) (x : ℕ) → x < span (length_of s)
    → bit_xor x (half (length_of s)) ≡ (x + half (length_of s)) % span (length_of s)
half_turned B x h = turned_over 7 x h
half_turned H x h = turned_over 15 x h
half_turned W x h = turned_over 31 x h

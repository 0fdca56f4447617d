-- The L bytes of a number, highest first, for any L: how many they are, how large, and that they
-- read back; and a register of which L bytes are written (document 000, 1.2; document 01, "B and H
-- in a register are its low end; a write keeps the rest").
use Prim.Native.Nat.{ℕ, zero, suc, ◌+◌, ◌*◌, ◌/◌, ◌%◌, ◌<◌}
use mathlib.Core.Path.{◌≡◌, refl, ap, ◌∙◌}
use mathlib.Core.List.{List, [], ◌∷◌}
use native.Mathlib.Nat.{mod-one, mod-lt, pow-succ'}
use native.Mathlib.Omega.{arith}
use lib.Arith.{digits_div, digits_mod, mod-mul}
use lib.ListN.{length, get_or}
use Rattle.machine.specs.Words.{Memory, byte_at, span, bytes_of, value_at, word_at}
use Rattle.machine.specs.Integers.{natural}
use Rattle.machine.specs.Commands.{kept_rest}
use Rattle.machine.proofs.Widths.{span_positive}

-- ---- Stored bytes

pub bytes_length : (L x : ℕ) → length (bytes_of L x) ≡ L
unfolding bytes_of
bytes_length zero x = refl
bytes_length (suc L) x = ap suc (bytes_length L x)

pub bytes_small : (L x i : ℕ) → get_or (bytes_of L x) i 0 < 256
unfolding bytes_of
bytes_small zero x i = omega arith
bytes_small (suc L) x zero = omega arith
bytes_small (suc L) x (suc i) = bytes_small L x i

-- bytes read highest first
unfoldable pub joined : ℕ → List ℕ → ℕ
joined acc [] = acc
joined acc (b ∷ bs) = joined (acc * 256 + b) bs

pub bytes_joined : (L acc x : ℕ) → joined acc (bytes_of L x) ≡ acc * span L + x % span L
unfolding bytes_of joined
bytes_joined zero acc x = omega (arith, mod-one x)
bytes_joined (suc L) acc x =
    let e : x % (256 * span L) ≡ x / span L % 256 * span L + x % span L = mod-mul x (omega arith) (span_positive L) in
    bytes_joined L (acc * 256 + x / span L % 256) x ∙ rw (pow-succ' 256 L, e) (omega arith)

-- a word is its four bytes so read
pub word-joined : (m : Memory) (a : ℕ)
    → word_at m a ≡ joined 0 (byte_at m a ∷ byte_at m (a + 1) ∷ byte_at m (a + 2) ∷ byte_at m (a + 3) ∷ [])
unfolding word_at joined
word-joined m a = omega arith

pub word_of_bytes : (x : ℕ) → word_at (bytes_of 4 x) 0 ≡ x % span 4
unfolding bytes_of
word_of_bytes x = word-joined (bytes_of 4 x) 0 ∙ bytes_joined 4 0 x ∙ omega arith

-- ---- Registers

module _ (L old x : ℕ) where
  pub kept_rest_low : kept_rest L old x % span L ≡ natural L x
  unfolding kept_rest
  kept_rest_low = digits_mod (old / span L) (mod-lt x (span_positive L))

  pub kept_rest_high : kept_rest L old x / span L ≡ old / span L
  unfolding kept_rest
  kept_rest_high = digits_div (old / span L) (mod-lt x (span_positive L))

-- ---- The number at a place

module _ (m : Memory) (a : ℕ) where
  pub one_byte_value : byte_at m a ≡ value_at m 1 a 0
  unfolding value_at
  one_byte_value = omega arith

  pub two_byte_value : byte_at m a * 256 + byte_at m (a + 1) ≡ value_at m 2 a 0
  unfolding value_at
  two_byte_value = omega arith

  pub four_byte_value : word_at m a ≡ value_at m 4 a 0
  unfolding value_at word_at
  four_byte_value =
      let p : a + 1 + 1 ≡ a + 2 = omega arith in
      let q : a + 2 + 1 ≡ a + 3 = omega arith in
      rw (p, q) (omega arith)

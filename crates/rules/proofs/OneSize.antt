-- The operands of a command are all words, or all of the size of its byte and none an address; but
-- for CONV. One test over all bytes tells it.
use Prim.Native.Nat.{ℕ, ◌%◌, ◌<◌}
use mathlib.Core.Path.{◌≡◌, refl, sym, subst}
use mathlib.Core.Bool.{Bool, true, not, ◌&&◌, ◌||◌, false≢true}
use mathlib.Core.List.{List, [], ◌∷◌}
use native.Mathlib.Omega.{arith}
use borrow.Author.Tests.{ne_eqb, not-true}
use lib.Dec.{eqb}
use Rattle.machine.specs.declared.Size.{Size}
use Rattle.machine.specs.declared.Size.TheVariants.{B, H, W}
use Rattle.machine.specs.Words.{size_at}
use Rattle.machine.specs.Code.{Rule, table, known_in, known}
use Rattle.machine.proofs.CommandBytes.{same}
use Rattle.machine.proofs.Widths.{and_true}
use Rattle.rules.specs.Rules.{known_rules, size_number, addressed_by, size_of, AllOf, Unaddressed}

-- ---- The tests, and what they tell

same_size : Size → Size → Bool
same_size s t = eqb (size_number s) (size_number t)

all_of : Size → List Rule → Bool
all_of s [] = true
all_of s (k ∷ ks) = same_size s k.size && all_of s ks

unaddressed : List Rule → Bool
unaddressed [] = true
unaddressed (k ∷ ks) = not (addressed_by k.role) && unaddressed ks

same_size_lem : (s t : Size) → same_size s t ≡ true → s ≡ t
unfolding same_size
same_size_lem B B h = refl
same_size_lem B H h = absurd (false≢true h)
same_size_lem B W h = absurd (false≢true h)
same_size_lem H B h = absurd (false≢true h)
same_size_lem H H h = refl
same_size_lem H W h = absurd (false≢true h)
same_size_lem W B h = absurd (false≢true h)
same_size_lem W H h = absurd (false≢true h)
same_size_lem W W h = refl

all_of_lem : (s : Size) (ks : List Rule) → all_of s ks ≡ true → AllOf s ks
unfolding all_of
all_of_lem s [] h = tt
all_of_lem s (k ∷ ks) h = let t = and_true _ _ h in (same_size_lem s k.size t.0, all_of_lem s ks t.1)

none_addressed : (ks : List Rule) → unaddressed ks ≡ true → Unaddressed ks
unfolding unaddressed
none_addressed [] h = tt
none_addressed (k ∷ ks) h = let t = and_true _ _ h in (not-true _ t.0, none_addressed ks t.1)

-- ---- The operands ks of byte b, the first of size s

of_byte : Size → ℕ → List Rule → Bool
of_byte s b ks = eqb b 0x21 || (same_size s (size_at (b % 4)) && (all_of s ks && unaddressed ks))

uniform : Size → ℕ → List Rule → Bool
uniform W b ks = all_of W ks
uniform B b ks = of_byte B b ks
uniform H b ks = of_byte H b ks

all_uniform : (b : ℕ) → b < 256 → uniform (size_of (known_rules (known b))) b (known_rules (known b)) ≡ true
unfolding known known_in table uniform of_byte all_of unaddressed same_size
all_uniform b h =
    same (λ k. uniform (size_of (known_rules (known k))) k (known_rules (known k))) (λ k. true) 256 0 refl b (omega arith) h

-- ---- What a command's operands are

pub words : (b : ℕ) → b < 256 → W ≡ size_of (known_rules (known b)) → AllOf W (known_rules (known b))
unfolding uniform
words b h e =
    all_of_lem W _ (subst (λ (s : Size). uniform s b (known_rules (known b)) ≡ true) (sym e) (all_uniform b h))

-- all of this size, which is that of the byte
pub record OfByte (s : Size) (b : ℕ) (ks : List Rule) : Type 0 where
  pub own : s ≡ size_at (b % 4)
  pub all : AllOf s ks
  pub plain : Unaddressed ks

of_byte_lem : (s : Size) (b : ℕ) (ks : List Rule) → (b ≡ 0x21 → ⊥) → of_byte s b ks ≡ true → OfByte s b ks
unfolding of_byte
of_byte_lem s b ks other h =
    let t = and_true (same_size s (size_at (b % 4))) (all_of s ks && unaddressed ks) (rw (ne_eqb b 0x21 other) at h) in
    let u = and_true (all_of s ks) (unaddressed ks) t.1 in
    record { own = same_size_lem s _ t.0; all = all_of_lem s ks u.0; plain = none_addressed ks u.1 }

pub narrow : (b : ℕ) → b < 256 → (b ≡ 0x21 → ⊥) → (W ≡ size_of (known_rules (known b)) → ⊥)
    → OfByte (size_of (known_rules (known b))) b (known_rules (known b))
unfolding uniform
narrow b h other wide = go (size_of (known_rules (known b))) refl (all_uniform b h)
  where
    go : (s : Size) → s ≡ size_of (known_rules (known b)) → uniform s b (known_rules (known b)) ≡ true
        → OfByte s b (known_rules (known b))
    go W e t = absurd (wide e)
    go B e t = of_byte_lem B b _ other t
    go H e t = of_byte_lem H b _ other t

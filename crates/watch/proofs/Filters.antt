-- What a filter's bits say of the addresses: a bit that is added is set and the others stay set, so a filter
-- with the bit of one address more covers that one too.
use Prim.Native.Nat.{ℕ, ◌+◌, ◌-◌, ◌/◌, ◌%◌, ◌^◌, ◌≤◌, ◌<◌}
use mathlib.Core.Path.{◌≡◌, refl, sym, ap, ◌∙◌}
use mathlib.Core.Bool.{Bool, true, false, ◌||◌}
use mathlib.Core.List.{List, []}
use native.Mathlib.Decide.{dec_le}
use native.Mathlib.Nat.{zero-div, add-div_right, add-mul-div_right}
use native.Mathlib.Omega.{arith}
use borrow.Author.Tests.{eq-eqb, eqb-true, eqb-false}
use lib.Dec.{eqb}
use lib.ListN.{length, take, get_or}
use lib.Pow.{pow_pos, pow-add, shr-shr}
use Rattle.machine.specs.Words.{pick}
use Rattle.watch.specs.Addresses.{among, SameSet, passes, with_bit, Covers}
use Rattle.watch.proofs.Parts.{among-at, among_split}

-- ---- The bits

-- adding a bit leaves those below it ..
below_kept : (filter k d : ℕ) → (filter + 2 ^ (1 + d + k)) / 2 ^ k % 2 ≡ filter / 2 ^ k % 2
below_kept filter k d =
    rw (pow-add 2 (1 + d) k, add-mul-div_right filter (2 ^ (1 + d)) (pow_pos k), pow-add 2 1 d) (omega arith)

-- .. and, where it is not set, sets it and carries nothing over to those above it
module _ (filter bit : ℕ) (free : filter / 2 ^ bit % 2 ≡ 1 → ⊥) where
  added-set : (filter + 2 ^ bit) / 2 ^ bit % 2 ≡ 1
  added-set = rw (add-div_right filter (pow_pos bit)) (omega arith)

  above_kept : (d : ℕ) → (filter + 2 ^ bit) / 2 ^ (bit + (1 + d)) ≡ filter / 2 ^ (bit + (1 + d))
  above_kept d =
      let e : (filter / 2 ^ bit + 1) / 2 ^ 1 ≡ filter / 2 ^ bit / 2 ^ 1 = omega arith in
      sym (shr-shr (filter + 2 ^ bit) bit (1 + d))
      ∙ rw (add-div_right filter (pow_pos bit), ← shr-shr (filter / 2 ^ bit + 1) 1 d, e, shr-shr (filter / 2 ^ bit) 1 d)
      (shr-shr filter bit (1 + d))

  others-kept : (k : ℕ) → filter / 2 ^ k % 2 ≡ 1 → (filter + 2 ^ bit) / 2 ^ k % 2 ≡ 1
  others-kept k set = go (dec_le k bit) (dec_le bit k)
    where
      go : Dec (k ≤ bit) → Dec (bit ≤ k) → (filter + 2 ^ bit) / 2 ^ k % 2 ≡ 1
      go (yes h) (yes g) = let e : k ≡ bit = omega arith in absurd (free (rw e at set))
      go (yes h) (no g) =
          let e : bit ≡ 1 + (bit - k - 1) + k = omega arith in
          rw e (below_kept filter k (bit - k - 1) ∙ set)
      go (no h) g =
          let e : k ≡ bit + (1 + (k - bit - 1)) = omega arith in
          rw e (ap (λ (n : ℕ). n % 2) (above_kept (k - bit - 1)) ∙ rw e at set)

module _ (filter bit : ℕ) where
  by_bit : (P : ℕ → Type 0) → (filter / 2 ^ bit % 2 ≡ 1 → P filter)
      → ((filter / 2 ^ bit % 2 ≡ 1 → ⊥) → P (filter + 2 ^ bit)) → P (with_bit filter bit)
  unfolding with_bit
  by_bit P taken left = go (eqb (filter / 2 ^ bit % 2) 1) refl
    where
      go : (b : Bool) → eqb (filter / 2 ^ bit % 2) 1 ≡ b → P (pick b filter (filter + 2 ^ bit))
      go true e = taken (eqb-true _ _ e)
      go false e = left (eqb-false _ _ e)

  pub bit-set : with_bit filter bit / 2 ^ bit % 2 ≡ 1
  bit-set = by_bit (λ n. n / 2 ^ bit % 2 ≡ 1) (λ set. set) (added-set filter bit)

  pub bits_kept : (k : ℕ) → filter / 2 ^ k % 2 ≡ 1 → with_bit filter bit / 2 ^ k % 2 ≡ 1
  bits_kept k set = by_bit (λ n. n / 2 ^ k % 2 ≡ 1) (λ _. set) (λ free. others-kept filter bit free k set)

-- ---- The addresses

pub zero_passes_nothing : (r15 : ℕ) → passes 0 r15 ≡ false
unfolding passes
zero_passes_nothing r15 = rw zero-div

pub zero_covers_nothing : Covers 0 []
unfolding among
zero_covers_nothing r15 h = cc

-- the addresses before place i, and the one there
pub covers_next : (filter : ℕ) (addresses : List ℕ) (i : ℕ) → i < length addresses
    → Covers filter (take i addresses) → Covers (with_bit filter (get_or addresses i 0 % 64)) (take (i + 1) addresses)
unfolding passes
covers_next filter addresses i h covers r15 =
    rw (among_split r15 addresses i 1, among-at r15 addresses i h)
    (go (among r15 (take i addresses)) (eqb a r15) refl refl)
  where
    a : ℕ
    a = get_or addresses i 0

    go : (b t : Bool) → among r15 (take i addresses) ≡ b → eqb a r15 ≡ t → (b || t) ≡ true
        → passes (with_bit filter (a % 64)) r15 ≡ true
    go true t e f g = eq-eqb _ _ (bits_kept filter (a % 64) (r15 % 64) (eqb-true _ _ (covers r15 e)))
    go false true e f g = let same : a ≡ r15 = eqb-true _ _ f in rw (← same) (eq-eqb _ _ (bit-set filter (a % 64)))
    go false false e f g = cc

module _ (filter : ℕ) (addresses : List ℕ) (covers : Covers filter addresses) where
  -- what fails the filter is no address
  pub unseen : (r15 : ℕ) → passes filter r15 ≡ false → among r15 addresses ≡ false
  unseen r15 fails = go (among r15 addresses) refl
    where
      go : (b : Bool) → among r15 addresses ≡ b → b ≡ false
      go true e = sym (covers r15 e) ∙ fails
      go false e = refl

  pub covers_same : (others : List ℕ) → SameSet addresses others → Covers filter others
  covers_same others same r15 h = covers r15 (same r15 ∙ h)

-- where nothing passes the filter, nothing is watched
pub nothing_watched : (filter : ℕ) (addresses : List ℕ) → Covers filter addresses → filter ≡ 0 → (r15 : ℕ)
    → among r15 addresses ≡ false
nothing_watched filter addresses covers e r15 = unseen filter addresses covers r15 (rw e (zero_passes_nothing r15))

-- A store: the bytes of a value one after the other, and the two loops of `store_each`, which looks
-- every byte up and then writes each to its place.
use Rattle.std.proofs.Common.{◌≡◌, ℕ, suc, ◌+◌, ◌<◌, ◌≤◌, List, [], ◌∷◌, length, get_or, drop, set, refl, add-zero, add-one, arith, drop-cons, get_or-set_other, get_or-set_same}
use Rattle.std.proofs.Math.ListN.{drop_of_length-le}
use native.Mathlib.Decide.{ℕ_discrete}
use Rattle.machine.specs.declared.Access.TheVariants.{Write}
use Rattle.machine.specs.declared.Alarm.{Alarm}
use Rattle.machine.specs.declared.RealAddress.{RealAddress}
use Rattle.machine.specs.Words.{Memory, wrap}
use Rattle.machine.specs.Alarms.{got, alarm}
use Rattle.machine.specs.Map.{found_at, View, RealWrites, writes_from, located, commit}

-- ---- Lookups

-- of a row of places, the i-th
abbrev pub place_at : List RealAddress → ℕ → RealAddress
place_at places i = get_or places i (record { 0 = 0 })

-- the writes of some bytes, each to its place, the first to the i-th
unfoldable pub writes_to : ℕ → List RealAddress → List ℕ → RealWrites
writes_to i places [] = []
writes_to i places (b ∷ bs) = (place_at places i, b) ∷ writes_to (suc i) places bs

-- byte k of those from address a on was found at its place
abbrev pub Placed : View → Memory → ℕ → List RealAddress → ℕ → Type 0
Placed v m a places k = v (record { 0 = wrap (a + k) }) Write ≡ got (found_at m (place_at places k))

module _ (v : View) (m : Memory) (a : ℕ) (places : List RealAddress) where
  located_from : (bytes : List ℕ) (i : ℕ) → ((k : ℕ) → k < i + length bytes → Placed v m a places k)
      → located v (writes_from (a + i) bytes) ≡ got (writes_to i places bytes)
  unfolding located writes_from writes_to
  located_from [] i h = refl
  located_from (b ∷ bytes) i h =
      let next : a + i + 1 ≡ a + suc i = omega arith in
      rw (h i (omega arith), next, located_from bytes (suc i) (λ k p. h k (omega arith)))

  stopped_from : (bytes : List ℕ) (i j : ℕ) (q : Alarm) (z : ℕ) → i ≤ j → j < i + length bytes
      → ((k : ℕ) → k < j → Placed v m a places k) → v (record { 0 = wrap (a + j) }) Write ≡ alarm q z
      → located v (writes_from (a + i) bytes) ≡ alarm q z
  unfolding located writes_from
  stopped_from [] i j q z p u h t = absurd (omega arith)
  stopped_from (b ∷ bytes) i j q z p u h t =
      go (ℕ_discrete i j) (λ r. stopped_from bytes (suc i) j q z r (omega arith) h t)
    where
      next : a + i + 1 ≡ a + suc i
      next = omega arith

      go : Dec (i ≡ j) → (i < j → located v (writes_from (a + suc i) bytes) ≡ alarm q z)
          → located v (writes_from (a + i) (b ∷ bytes)) ≡ alarm q z
      go (yes e) r = rw (e, t)
      go (no f) r = rw (h i (omega arith), next, r (omega arith))

  pub all_located : (bytes : List ℕ) → ((k : ℕ) → k < length bytes → Placed v m a places k)
      → located v (writes_from a bytes) ≡ got (writes_to 0 places bytes)
  all_located bytes h = rw add-zero at (located_from bytes 0 (λ k p. h k (omega arith)))

  pub one_stopped : (bytes : List ℕ) (j x : ℕ) (q : Alarm) (z : ℕ) → j < length bytes
      → ((k : ℕ) → k < j → Placed v m a places k) → x ≡ wrap (a + j) → v (record { 0 = x }) Write ≡ alarm q z
      → located v (writes_from a bytes) ≡ alarm q z
  one_stopped bytes j x q z u h e t =
      rw add-zero at (stopped_from bytes 0 j q z (omega arith) (omega arith) h (rw e at t))

-- one more place is known
pub one_placed : (v : View) (m : Memory) (a : ℕ) (places : List RealAddress) (i x : ℕ) (r : RealAddress)
    → i < length places → ((k : ℕ) → k < i → Placed v m a places k)
    → x ≡ wrap (a + i) → v (record { 0 = x }) Write ≡ got (found_at m r) → (k : ℕ) → k < i + 1
    → Placed v m a (set places i r) k
one_placed v m a places i x r l h e t k u = go (ℕ_discrete k i)
  where
    go : Dec (k ≡ i) → Placed v m a (set places i r) k
    go (yes q) = rw (q, get_or-set_same places i r (record { 0 = 0 }) l, ← e) t
    go (no f) = rw (get_or-set_other places i k r (record { 0 = 0 }) f) (h k (omega arith))

-- ---- Writes

module _ (places : List RealAddress) (bytes : List ℕ) (m : Memory) where
  pub one_written : (j : ℕ) → j < length bytes
      → commit (writes_to j places (drop j bytes)) m ≡ commit (writes_to (j + 1) places (drop (j + 1) bytes))
      (set m (place_at places j).0 (get_or bytes j 0))
  unfolding commit writes_to
  one_written j h = rw (drop-cons bytes j 0 h, add-one j)

  pub all_written : (j : ℕ) → length bytes ≤ j → commit (writes_to j places (drop j bytes)) m ≡ m
  unfolding commit writes_to
  all_written j h = rw (drop_of_length-le bytes h)

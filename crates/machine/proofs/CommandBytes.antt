-- Facts of a byte from what the prover computes of the table: equal values at each byte of an
-- interval, and no command between the rows.
use Prim.Native.Nat.{ℕ, zero, suc, ◌+◌, ◌≤◌, ◌<◌}
use mathlib.Core.Path.{◌≡◌, refl}
use mathlib.Core.Bool.{Bool, true, false, ◌&&◌, ◌||◌, and-false}
use mathlib.Core.List.{List, [], ◌∷◌}
use mathlib.Core.Logic.{⊎_elim}
use mathlib.Core.Option.{none}
use native.Mathlib.Omega.{arith}
use native.Mathlib.Decide.{ℕ_discrete}
use borrow.Author.Tests.{le-ltb, lt-leb, ne_eqb}
use lib.Dec.{T, ltb, leb, leb→le}
use mir.Facts.{and_yes, or_yes}
use Rattle.machine.specs.Code.{Row, one, sized, known_in}

-- ---- Equal values

-- at k numbers from n on
abbrev pub values : {A : Type 0} → (ℕ → A) → ℕ → ℕ → List A
values f zero n = []
values f (suc k) n = f n ∷ values f k (suc n)

pub same : {A : Type 0} (f g : ℕ → A) (k n : ℕ) → values f k n ≡ values g k n → (b : ℕ) → n ≤ b → b < n + k → f b ≡ g b
same f g zero n e b h l = absurd (omega arith)
same f g (suc k) n e b h l =
    elim (ℕ_discrete n b) [ yes p ↦ rw (← p) (cc) | no p ↦ same f g k (suc n) (cc) b (omega arith) (omega arith) ]

-- ---- No command

-- N, and b is none of the bytes that are a row alone
abbrev pub NoneOf : List Row → Type 0 → ℕ → Type 0
NoneOf [] N b = N
NoneOf (one n c os ∷ rows) N b = NoneOf rows (N × (b ≡ n → ⊥)) b
NoneOf (sized n c os ∷ rows) N b = NoneOf rows N b

-- no row of three bytes has a number from lo on, below hi
abbrev pub between : List Row → ℕ → ℕ → Bool
between [] lo hi = true
between (one n c os ∷ rows) lo hi = between rows lo hi
between (sized n c os ∷ rows) lo hi = (leb (n + 3) lo || leb hi n) && between rows lo hi

module _ (lo hi b : ℕ) (l : lo ≤ b) (h : b < hi) where
  outside : (n : ℕ) → T (leb (n + 3) lo || leb hi n) → (leb n b && ltb b (n + 3)) ≡ false
  outside n t =
      ⊎_elim
      (λ p. rw (le-ltb b (n + 3) (omega (arith, leb→le))) (and-false (leb n b)))
      (λ p. rw (lt-leb n b (omega (arith, leb→le))))
      (or_yes (leb (n + 3) lo) (leb hi n) t)

  pub unknown : (rows : List Row)
      → T (between rows lo hi)
      → (N : Type 0)
      → NoneOf rows N b
      → N × (known_in rows b ≡ none)
  unfolding known_in
  unknown [] t N p = (p, refl)
  unknown (one n c os ∷ rows) t N p =
      let q = unknown rows t (N × (b ≡ n → ⊥)) p in
      (q.0.0, rw (ne_eqb b n q.0.1) q.1)
  unknown (sized n c os ∷ rows) t N p =
      let s = and_yes (leb (n + 3) lo || leb hi n) (between rows lo hi) t in
      let q = unknown rows s.1 N p in
      (q.0, rw (outside n s.0) q.1)

-- A list of addresses to watch for, and a filter of 64 bits that each of them passes. What fails the filter is
-- none of them.
use Rattle.std.specs.Prelude.{ℕ, ◌+◌, ◌/◌, ◌%◌, ◌^◌, ◌≡◌, Bool, true, false, List, [], ◌∷◌, eqb}
use Rattle.machine.specs.Words.{pick}

-- whether a number is in a list
unfoldable pub among : ℕ → List ℕ → Bool
among r15 [] = false
among r15 (a ∷ addresses) = pick (eqb a r15) true (among r15 addresses)

-- the same numbers, in whatever order and however often
abbrev pub SameSet : List ℕ → List ℕ → Type 0
SameSet xs ys = (r15 : ℕ) → among r15 xs ≡ among r15 ys

-- bit k of the filter is set for the addresses that are k modulo 64
unfoldable pub passes : ℕ → ℕ → Bool
passes filter r15 = eqb (filter / 2 ^ (r15 % 64) % 2) 1

-- the filter with a bit
unfoldable pub with_bit : ℕ → ℕ → ℕ
with_bit filter bit = pick (eqb (filter / 2 ^ bit % 2) 1) filter (filter + 2 ^ bit)

-- each address passes the filter
abbrev pub Covers : ℕ → List ℕ → Type 0
Covers filter addresses = (r15 : ℕ) → among r15 addresses ≡ true → passes filter r15 ≡ true

-- Whether a number is in a list: the parts of the list answer for the whole, and a number again adds none.
use Prim.Native.Nat.{ℕ, zero, suc, ◌+◌, ◌<◌}
use mathlib.Core.Path.{◌≡◌, refl, ◌∙◌}
use mathlib.Core.Bool.{Bool, true, false, ◌||◌, or-false}
use mathlib.Core.List.{List, [], ◌∷◌, ◌++◌}
use native.Mathlib.Numerals.{add-one}
use native.Mathlib.Omega.{arith}
use lib.Dec.{eqb}
use lib.ListN.{length, take, drop, set, get_or}
use lib.Seq.{drop-cons, drop-drop, take-add, take-suc-set}
use Rattle.machine.specs.Words.{pick}
use Rattle.watch.specs.Addresses.{among, SameSet}

pub among_append : (r15 : ℕ) (xs ys : List ℕ) → among r15 (xs ++ ys) ≡ (among r15 xs || among r15 ys)
unfolding among
among_append r15 [] ys = refl
among_append r15 (x ∷ xs) ys = rw (among_append r15 xs ys) (go (eqb x r15))
  where
    go : (b : Bool) → pick b true (among r15 xs || among r15 ys) ≡ (pick b true (among r15 xs) || among r15 ys)
    go true = refl
    go false = refl

among_single : (r15 a : ℕ) → among r15 (a ∷ []) ≡ eqb a r15
unfolding among
among_single r15 a = go (eqb a r15)
  where
    go : (b : Bool) → pick b true false ≡ b
    go true = refl
    go false = refl

module _ (r15 : ℕ) (xs : List ℕ) where
  pub among-at : (i : ℕ) → i < length xs → among r15 (take 1 (drop i xs)) ≡ eqb (get_or xs i 0) r15
  among-at i h = rw (drop-cons xs i 0) (among_single r15 (get_or xs i 0))

  pub among_split : (n m : ℕ) → among r15 (take (n + m) xs) ≡ (among r15 (take n xs) || among r15 (take m (drop n xs)))
  among_split n m = rw (take-add n m xs, among_append)

-- four parts of n elements, from place i on
pub among_quarters : (r15 : ℕ) (xs : List ℕ) (n i : ℕ)
    → among r15 (take (n + n + n + n) (drop i xs))
    ≡ (among r15 (take n (drop i xs)) || among r15 (take n (drop (i + n) xs))
    || among r15 (take n (drop (i + (n + n)) xs)) || among r15 (take n (drop (i + (n + n + n)) xs)))
among_quarters r15 xs n i =
    let part = among_split r15 (drop i xs) in
    part (n + n + n) n
    ∙ rw (part (n + n) n, part n n, drop-drop (n + n + n) i xs, drop-drop (n + n) i xs, drop-drop n i xs)

first_known : (r15 : ℕ) (xs : List ℕ) (i : ℕ) → 0 < i → i < length xs
    → (among r15 (take i xs) || eqb (get_or xs 0 0) r15) ≡ among r15 (take i xs)
unfolding among
first_known r15 [] i some h = absurd (omega arith)
first_known r15 (x ∷ xs) zero some h = absurd (omega arith)
first_known r15 (x ∷ xs) (suc i) some h = go (eqb x r15)
  where
    go : (b : Bool) → (pick b true (among r15 (take i xs)) || b) ≡ pick b true (among r15 (take i xs))
    go true = refl
    go false = or-false _

pub first_again : (xs : List ℕ) (i : ℕ) → 0 < i → i < length xs
    → SameSet (take (i + 1) (set xs i (get_or xs 0 0))) (take i xs)
first_again xs i some h r15 =
    rw (add-one, take-suc-set xs i (get_or xs 0 0) h, among_append, among_single) (first_known r15 xs i some h)

pub none_among : (r15 : ℕ) (xs : List ℕ) → length xs ≡ 0 → among r15 xs ≡ false
unfolding among
none_among r15 [] e = refl
none_among r15 (x ∷ xs) e = absurd (omega arith)

-- what is known of some addresses, and of those that follow them
pub known_on : (r15 : ℕ) (before : Bool) (xs ys : List ℕ)
    → ((before || among r15 xs) || among r15 ys) ≡ (before || among r15 (xs ++ ys))
known_on r15 true xs ys = refl
known_on r15 false xs ys = rw (among_append r15 xs ys)

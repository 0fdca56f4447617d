-- What a turn of `gather` keeps, and that this gives `Gathers` at the end.
use mathlib.Core.Path.{◌≡◌, refl, ◌∙◌}
use mathlib.Core.Bool.{Bool, true, false}
use mathlib.Core.List.{List, [], ◌∷◌, ◌++◌, append_assoc, append-nil}
use Prim.Native.Nat.{ℕ, zero, suc, ◌+◌, ◌<◌, ◌≤◌}
use native.Mathlib.Nat.{zero-lt-suc}
use native.Mathlib.Numerals.{add-one}
use native.Mathlib.Omega.{arith}
use lib.Dec.{leb}
use lib.ListN.{length, take, length-set, replicate, length-replicate}
use lib.Seq.{take_all, take-suc-set}
use borrow.Author.Tests.{leb-true, leb-false}
use Rattle.machine.specs.Words.{pick}
use Rattle.breakpoints.specs.declared.armed.Addresses.{Addresses}
use Rattle.breakpoints.specs.declared.Breakpoint.{Breakpoint}
use Rattle.breakpoints.specs.Gathered.{armed_addresses, with_address, with_one}
use Rattle.breakpoints.specs.Breakpoints.{most}

-- the breakpoints of ps are gathered in a, but for those of `left`, of which n are still looked at
pub record SoFar (ps : List Breakpoint) (n : ℕ) (left : List Breakpoint) (a : Addresses) : Type 0 where
  pub places : length a.addresses ≡ most
  pub room : a.count + n ≤ most
  pub whole : length ps ≤ most → take a.count a.addresses ++ armed_addresses (take n left) ≡ armed_addresses ps

-- nothing is gathered yet
pub begins : (ps : List Breakpoint) → SoFar ps most ps (record { addresses = replicate most 0; count = 0 })
begins ps = record {
  places = length-replicate {A = ℕ} most 0;
  room = omega arith;
  whole = λ few. rw (take_all most ps few);
}

module _ (ps : List Breakpoint) (n : ℕ) (left : List Breakpoint) (p : Breakpoint) (a : Addresses)
    (s : SoFar ps (suc n) (p ∷ left) a) where
  -- an armed one's address has room
  either : (on full : Bool) → p.armed ≡ on → leb most a.count ≡ full
      → SoFar ps n left (pick on (pick full a (with_address a p.r15.0)) a)
  unfolding armed_addresses
  either true true e f = absurd (omega (arith, s.room, leb-true most a.count f))
  either true false e f = record {
    places = length-set a.addresses a.count p.r15.0 ∙ s.places;
    room = omega (arith, s.room);
    whole = λ few.
        let free : a.count < length a.addresses = omega (arith, s.places, leb-false most a.count f) in
        rw (add-one a.count, take-suc-set a.addresses a.count p.r15.0 free, append_assoc) (rw e at (s.whole few));
  }
  either false full e f = record {
    places = s.places;
    room = omega (arith, s.room);
    whole = λ few. rw e at (s.whole few);
  }

  pub goes_on : SoFar ps n left (with_one a p)
  unfolding with_one
  goes_on = either p.armed (leb most a.count) refl refl

none_looked_at : (n : ℕ) (left : List Breakpoint) → (0 < n → length left ≡ 0) → take n left ≡ []
none_looked_at zero left none = refl
none_looked_at (suc n) [] none = refl
none_looked_at (suc n) (p ∷ left) none = let e : length (p ∷ left) ≡ 0 = none (zero-lt-suc n) in absurd (omega arith)

-- no breakpoint is looked at any more
pub ends : (ps : List Breakpoint) (n : ℕ) (left : List Breakpoint) (a : Addresses) → (0 < n → length left ≡ 0)
    → SoFar ps n left a → length ps ≤ most → (a.count ≤ most) × (take a.count a.addresses ≡ armed_addresses ps)
unfolding armed_addresses
ends ps n left a none s few = (omega (arith, s.room), rw (none_looked_at n left none, append-nil) at (s.whole few))

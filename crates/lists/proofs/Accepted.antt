-- A list that is not refused is well formed, has few enough pieces, and puts inside the memory.
use Prim.Native.Nat.{ℕ}
use mathlib.Core.Path.{◌≡◌, refl}
use mathlib.Core.Bool.{Bool, true, false}
use mathlib.Core.List.{List}
use lib.Dec.{leb}
use Rattle.std.specs.Prelude.{Ok}
use Rattle.lists.specs.declared.LoadRefusal.TheVariants.{Malformed, Pieces, Outside}
use Rattle.lists.specs.Lists.{well_formed, pieces_of, puts_of}
use Rattle.lists.specs.Refusals.{all_inside, unless, list_refusal}

pub record Passed (limit n : ℕ) (list : List ℕ) : Type 0 where
  pub whole : well_formed list ≡ true
  pub few : leb (pieces_of list) limit ≡ true
  pub inside : all_inside n (puts_of list) ≡ true

pub passed : (limit n : ℕ) (list : List ℕ) → list_refusal limit n list ≡ Ok tt → Passed limit n list
unfolding list_refusal
passed limit n list h =
    let r = go (well_formed list) (leb (pieces_of list) limit) (all_inside n (puts_of list)) h in
    record { whole = r.0; few = r.1; inside = r.2 }
  where
    go : (a b c : Bool) → unless a Malformed (unless b Pieces (unless c Outside (Ok tt))) ≡ Ok tt
        → (a ≡ true) × (b ≡ true) × (c ≡ true)
    go true true true e = (refl, refl, refl)
    go true true false e = (refl, refl, cc)
    go true false c e = (refl, cc, cc)
    go false b c e = (cc, cc, cc)

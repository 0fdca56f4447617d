-- How the call ends: refused by the memory's length, refused by its list, or loaded.
use Prim.Native.Nat.{ℕ}
use mathlib.Core.Path.{◌≡◌}
use mathlib.Core.Bool.{Bool, true, false}
use mathlib.Core.List.{List}
use native.Mathlib.Omega.{arith}
use lib.ListN.{length}
use Rattle.std.specs.Prelude.{Ok, Err}
use Rattle.machine.specs.Words.{Memory}
use Rattle.machine.specs.State.{allowed_length}
use Rattle.machine.specs.Map.{commit}
use Rattle.machine.proofs.Accepted.{length_small}
use Rattle.lists.specs.declared.LoadRefusal.{LoadRefusal}
use Rattle.lists.specs.declared.LoadRefusal.TheVariants.{Length}
use Rattle.lists.specs.Lists.{puts_of}
use Rattle.lists.specs.Refusals.{all_inside, unless, list_refusal}
use Rattle.lists.proofs.Accepted.{passed}
use Rattle.load.specs.Loading.{loaded, load_refusal, loaded_by, load_of}
use Rattle.load.specs.Judged.{Sound}

module _ (limit : ℕ) (m : Memory) (list : List ℕ) where
  pub refused_length : allowed_length (length m) ≡ false → loaded (Err Length) m ≡ load_of limit m list
  unfolding load_of load_refusal loaded_by
  refused_length h = rw h

  module _ (allowed : allowed_length (length m) ≡ true) where
    pub refused_list : {k : LoadRefusal} → list_refusal limit (length m) list ≡ Err k
        → loaded (Err k) m ≡ load_of limit m list
    unfolding load_of load_refusal loaded_by
    refused_list h = rw (allowed, h)

    module _ (h : list_refusal limit (length m) list ≡ Ok tt) where
      pub list_loaded : loaded (Ok tt) (commit (puts_of list) m) ≡ load_of limit m list
      unfolding load_of load_refusal loaded_by
      list_loaded = rw (allowed, h)

      pub sound : Sound m list
      sound =
          let p = passed limit (length m) list h in
          record { memory = omega (arith, length_small (length m) allowed); whole = p.whole; inside = p.inside }

  -- a list that is loaded puts inside the memory
  pub puts_inside : load_refusal limit (length m) list ≡ Ok tt → all_inside (length m) (puts_of list) ≡ true
  unfolding load_refusal
  puts_inside h = go (allowed_length (length m)) h
    where
      go : (b : Bool) → unless b Length (list_refusal limit (length m) list) ≡ Ok tt
          → all_inside (length m) (puts_of list) ≡ true
      go true e = (passed limit (length m) list e).inside
      go false e = cc

-- for a memory as long as another a list is as sound
pub as_long : {m n : Memory} {list : List ℕ} → Sound m list → length n ≡ length m → Sound n list
as_long h e = record { memory = rw e h.memory; whole = h.whole; inside = rw e h.inside }

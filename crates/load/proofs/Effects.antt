-- What a load leaves at each address.
use Prim.Native.Nat.{ℕ}
use mathlib.Core.Path.{◌≡◌, refl}
use lib.ListN.{length}
use Rattle.std.specs.Prelude.{Ok, Err}
use Rattle.machine.specs.Words.{byte_at}
use Rattle.machine.specs.Map.{commit}
use Rattle.machine.proofs.Writes.{commit-length}
use Rattle.lists.specs.Refusals.{LoadAnswer}
use Rattle.lists.specs.Lists.{puts_of, last_put, or_old}
use Rattle.lists.proofs.Puts.{commit_last}
use Rattle.load.specs.Loading.{load_refusal, loaded_by, load_of}
use Rattle.load.specs.Effects.{LoadEffects, Effects}
use Rattle.load.proofs.Outcomes.{puts_inside}

pub effects : Effects
unfolding load_of loaded_by
effects limit m list = go (load_refusal limit (length m) list) refl
  where
    at_each : load_refusal limit (length m) list ≡ Ok tt → (a : ℕ)
        → byte_at (commit (puts_of list) m) a ≡ or_old (last_put a (puts_of list)) (byte_at m a)
    at_each q a = commit_last (puts_of list) m a (puts_inside limit m list q)

    go : (r : LoadAnswer) → load_refusal limit (length m) list ≡ r → LoadEffects limit m list
    go (Ok u) q = record {
      refused = λ k e. let z : ◌≡◌ {A = LoadAnswer} (Ok tt) (Err k) = rw q at e in cc;
      each = λ h a. rw q (at_each q a);
      unmentioned = λ a e. rw q (rw e at (at_each q a));
      last = λ h a b e. rw q (rw e at (at_each q a));
      length-kept = rw q (commit-length (puts_of list) m);
    }
    go (Err k) q = record {
      refused = λ j e. rw q;
      each = λ h. let z : ◌≡◌ {A = LoadAnswer} (Err k) (Ok tt) = rw q at h in λ a. cc;
      unmentioned = λ a e. rw q;
      last = λ h a b e. let z : ◌≡◌ {A = LoadAnswer} (Err k) (Ok tt) = rw q at h in cc;
      length-kept = rw q;
    }

-- How the call ends: refused by the memory's length, by a list alone, by the scratch or by a clash, or
-- loaded.
use Prim.Native.Nat.{ℕ, ◌≤◌, ◌<◌}
use mathlib.Core.Path.{◌≡◌}
use mathlib.Core.Bool.{true, false}
use mathlib.Core.List.{List, ◌++◌}
use borrow.Author.Tests.{le-leb, lt-leb}
use lib.ListN.{length}
use Rattle.std.specs.Prelude.{Ok, Err}
use Rattle.machine.specs.Words.{Memory}
use Rattle.machine.specs.State.{allowed_length}
use Rattle.machine.specs.Map.{commit}
use Rattle.lists.specs.declared.LoadRefusal.{LoadRefusal}
use Rattle.lists.specs.declared.LoadRefusal.TheVariants.{Length}
use Rattle.lists.specs.Lists.{puts_of}
use Rattle.lists.specs.Refusals.{desk_pieces, list_refusal}
use Rattle.clash.specs.Clashes.{agree, cleared}
use Rattle.joint.specs.declared.JointRefusal.TheVariants.{Load, Scratch, Clash}
use Rattle.joint.specs.Joint.{joint_refusal, loaded_both, loaded_both_by, joint_of}

module _ (m : Memory) (first second s : List ℕ) where
  pub refused_length : allowed_length (length m) ≡ false
      → loaded_both (Err (Load Length)) m s ≡ joint_of m first second s
  unfolding joint_of joint_refusal loaded_both_by
  refused_length h = rw h

  module _ (allowed : allowed_length (length m) ≡ true) where
    pub refused_first : {k : LoadRefusal} → list_refusal desk_pieces (length m) first ≡ Err k
        → loaded_both (Err (Load k)) m s ≡ joint_of m first second s
    unfolding joint_of joint_refusal loaded_both_by
    refused_first h = rw (allowed, h)

    module _ (one : list_refusal desk_pieces (length m) first ≡ Ok tt) where
      pub refused_second : {k : LoadRefusal} → list_refusal desk_pieces (length m) second ≡ Err k
          → loaded_both (Err (Load k)) m s ≡ joint_of m first second s
      unfolding joint_of joint_refusal loaded_both_by
      refused_second h = rw (allowed, one, h)

      -- nothing is refused of either alone
      module _ (other : list_refusal desk_pieces (length m) second ≡ Ok tt) where
        pub too_short : length s < length m → loaded_both (Err Scratch) m s ≡ joint_of m first second s
        unfolding joint_of joint_refusal loaded_both_by
        too_short h = rw (allowed, one, other, lt-leb (length m) (length s) h)

        module _ (room : length m ≤ length s) where
          pub clashing : agree (length m) (puts_of first) (puts_of second) ≡ false
              → loaded_both (Err Clash) m (cleared s) ≡ joint_of m first second s
          unfolding joint_of joint_refusal loaded_both_by
          clashing h = rw (allowed, one, other, le-leb (length m) (length s) room, h)

          pub agreeing : agree (length m) (puts_of first) (puts_of second) ≡ true
              → loaded_both (Ok tt) (commit (puts_of first ++ puts_of second) m) (cleared s) ≡ joint_of m first second s
          unfolding joint_of joint_refusal loaded_both_by
          agreeing h = rw (allowed, one, other, le-leb (length m) (length s) room, h)

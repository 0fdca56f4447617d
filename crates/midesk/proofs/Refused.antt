-- A refused call leaves every byte of the state, and the memory, as they were.
use Rattle.std.specs.Prelude.{Ok, Err}
use Prim.Native.Nat.{ℕ, ◌<◌}
use mathlib.Core.Path.{◌≡◌, refl}
use mathlib.Core.Logic.{◌≢◌}
use mathlib.Core.List.{List, ◌++◌}
use lib.ListN.{length}
use Rattle.machine.specs.declared.Refusal.{Refusal}
use Rattle.machine.specs.Words.{Memory, byte_at}
use Rattle.machine.specs.Calls.{step_refusal, request_refusal, unchanged, unless_refused, request_outcome, request_of}
use Rattle.desk.proofs.Refused as turns
use Rattle.layout.specs.Layout.{state_bytes, unpacked}
use Rattle.layout.proofs.RoundTrip.{packed-unpacked}
use Rattle.lists.specs.Lists.{puts_of}
use Rattle.lists.specs.Refusals.{LoadAnswer, desk_pieces, load_answer_number}
use Rattle.load.specs.Loading.{load_refusal, loaded_by, load_of}
use Rattle.joint.specs.declared.JointRefusal.TheVariants.{Load, Scratch, Clash}
use Rattle.joint.specs.Joint.{JointAnswer, joint_answer_number, joint_refusal, loaded_both_by, joint_of}
use Rattle.midesk.specs.Exports.{load_left, load_call, load_both_left, load_both_call}
use Rattle.midesk.specs.Exports.{replied_of, request_call, step_left, step_call, run_left, run_call}

module _ (b : List ℕ) (l : length b ≡ state_bytes) (small : (i : ℕ) → byte_at b i < 256) where
  -- a refused step leaves the state's bytes and the memory
  pub refused_step : (m : Memory) (k : Refusal) → step_refusal (unpacked b) (length m) ≡ Err k
      → ((step_call b m).state ≡ b) × ((step_call b m).memory ≡ m)
  unfolding step_call step_left
  refused_step m k e = rw (← turns.refused_step (unpacked b) m k e) (packed-unpacked b l small, refl)

  -- a refused run leaves them too
  pub refused_run : (n : ℕ) (m : Memory) (k : Refusal) → step_refusal (unpacked b) (length m) ≡ Err k
      → ((run_call n b m).state ≡ b) × ((run_call n b m).memory ≡ m)
  unfolding run_call run_left
  refused_run n m k e = rw (← turns.refused_run (unpacked b) m n k e) (packed-unpacked b l small, refl)

  -- a refused request leaves the state's bytes
  pub refused_request : (level : ℕ) (k : Refusal) → request_refusal (unpacked b) level ≡ Err k
      → (request_call b level).state ≡ b
  unfolding request_call replied_of request_of request_outcome unless_refused unchanged
  refused_request level k e = rw e (packed-unpacked b l small)

-- a refused load leaves the memory
pub refused_load : (m : Memory) (list : List ℕ) → (load_call m list).answer ≢ 0 → (load_call m list).memory ≡ m
unfolding load_call load_left load_of loaded_by
refused_load m list = go (load_refusal desk_pieces (length m) list)
  where
    go : (a : LoadAnswer) → load_answer_number (loaded_by a (puts_of list) m).answer ≢ 0
        → (loaded_by a (puts_of list) m).memory ≡ m
    go (Ok u) h = absurd (h refl)
    go (Err k) h = refl

-- and so does a refused load of two lists
pub refused_load_both : (m : Memory) (first second s : List ℕ) → (load_both_call m first second s).answer ≢ 0
    → (load_both_call m first second s).memory ≡ m
unfolding load_both_call load_both_left joint_of loaded_both_by
refused_load_both m first second s = go (joint_refusal (length m) first second (length s))
  where
    go : (a : JointAnswer) → joint_answer_number (loaded_both_by a (puts_of first ++ puts_of second) m s).answer ≢ 0
        → (loaded_both_by a (puts_of first ++ puts_of second) m s).memory ≡ m
    go (Ok u) h = absurd (h refl)
    go (Err (Load k)) h = refl
    go (Err Scratch) h = refl
    go (Err Clash) h = refl

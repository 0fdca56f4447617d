-- A step and a run that are refused, and those that are not.
use Rattle.std.specs.Prelude.{Ok, Err}
use Prim.Native.Nat.{ℕ}
use mathlib.Core.Path.{◌≡◌}
use lib.ListN.{length}
use Rattle.machine.specs.declared.Desk.{Desk}
use Rattle.machine.specs.declared.Refusal.{Refusal}
use Rattle.machine.specs.Words.{Memory}
use Rattle.machine.specs.Map.{commit}
use Rattle.machine.specs.Steps.{one_step}
use Rattle.machine.specs.Calls.{ran, unchanged, unless_refused, step_refusal, step_outcome, step_of, steps_of, run_unless}
use Rattle.machine.specs.Calls.{run_of}
use Rattle.entry.specs.Replies.{stepped, shown}

module _ (d : Desk) (m : Memory) where
  pub refused_step : (k : Refusal) → step_refusal d (length m) ≡ Err k
      → stepped (record { answer = Err k; desk = d }) m ≡ step_of d m
  unfolding step_of step_outcome unless_refused unchanged commit
  refused_step k e = rw e

  pub accepted_step : step_refusal d (length m) ≡ Ok tt → shown (one_step d m) m ≡ step_of d m
  unfolding step_of step_outcome unless_refused
  accepted_step e = rw e

  pub refused_run : (n : ℕ) (k : Refusal) → step_refusal d (length m) ≡ Err k → ran (Err k) 0 d m ≡ run_of n d m
  unfolding run_of run_unless
  refused_run n k e = rw e

  pub accepted_run : (n : ℕ) → step_refusal d (length m) ≡ Ok tt → steps_of n 0 d m ≡ run_of n d m
  unfolding run_of run_unless
  accepted_run n e = rw e

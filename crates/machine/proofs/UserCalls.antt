-- What one call of a desk in user mode may do, whatever its commands are: no proof here looks into
-- a command.
use Rattle.std.specs.Prelude.{Ok, Err}
use Prim.Native.Nat.{ℕ, zero, suc, ◌<◌}
use mathlib.Core.Path.{◌≡◌, refl}
use mathlib.Core.Bool.{Bool, true, false}
use mathlib.Core.List.{[]}
use native.Mathlib.Omega.{arith}
use borrow.Author.Tests.{ltb-true, lt-ltb}
use lib.ListN.{length, length-append}
use Rattle.machine.specs.declared.Desk.{Desk}
use Rattle.machine.specs.Words.{Memory}
use Rattle.machine.specs.State.{Registers, user_mode, level_of, flags_of, with_flags, valid_kernel_status, entry_r15}
use Rattle.machine.specs.State.{entry_status, saved_bytes}
use Rattle.machine.specs.Alarms.{OrAlarm, got, alarm}
use Rattle.machine.specs.Map.{View, VirtualWrites, RealWrites, real_writes_from, located}
use Rattle.machine.specs.Commands.{Done, Completion, done, of_mode, SystemCall, user_command}
use Rattle.machine.specs.Steps.{Event, quiet, entered, stopped, Outcome, stop, completed, Plan, continues}
use Rattle.machine.specs.Steps.{enters, due, user_written, of_user_command, interrupted, user_plan, enter_if}
use Rattle.machine.specs.Steps.{concluded, user_step}
use Rattle.machine.specs.Calls.{Answer, unchanged, unless_refused, request_refusal, request_outcome}
use Rattle.machine.proofs.Writes.{Each}
use Rattle.machine.proofs.Blocks.{words_length, registers_length}
use Rattle.machine.proofs.Views.{EachLocated}

-- what a quiet call leaves as it is
pub record Kept (d e : Desk) : Type 0 where
  pub user : user_mode e.status ≡ true
  pub map : e.map ≡ d.map
  pub system : e.system ≡ d.system
  pub control : e.control ≡ d.control

-- an outcome of desk d whose quiet writes go only to places with the property P
abbrev pub Fit : Desk → (ℕ → Type 0) → Event → Desk → RealWrites → Type 0
Fit d P quiet e ws = Kept d e × Each P ws
Fit d P (entered i saved) e ws = (length saved ≡ 72) × (ws ≡ real_writes_from d.control.0 saved)
Fit d P (stopped n) e ws = ws ≡ []

abbrev pub FitOutcome : Desk → (ℕ → Type 0) → Outcome → Type 0
FitOutcome d P o = Fit d P o.event o.desk o.writes

-- ---- The saved bytes

pub length_saved : (r : Registers) (s x : ℕ) → length (saved_bytes r s x) ≡ 72
unfolding saved_bytes
length_saved r s x = simp (words_length, length-append, registers_length)

-- ---- Plans

abbrev FitPlan : (ℕ → Type 0) → Plan → Type 0
FitPlan P (continues r s ws) = (s < 0x8000_0000) × Each P ws
FitPlan P (enters i r x p) = Unit {0}

module _ (P : ℕ → Type 0) (r : Registers) (s p : ℕ) (user : s < 0x8000_0000) where
  written_fit : (d : Done) (q : OrAlarm RealWrites) → EachLocated P q → FitPlan P (user_written r s p d q)
  unfolding user_written with_flags
  written_fit d (got ws) h = (omega arith, h)
  written_fit d (alarm n x) h = tt

  command_fit : (v : View) (a : OrAlarm (Completion SystemCall))
      → ((ws : VirtualWrites) → EachLocated P (located v ws)) → FitPlan P (of_user_command r s p v a)
  unfolding of_user_command
  command_fit v (got (done d)) h = written_fit d (located v d.writes) (h d.writes)
  command_fit v (got (of_mode c)) h = tt
  command_fit v (alarm n x) h = tt

  interrupt_fit : (k : ℕ) (o : Plan) → FitPlan P o → FitPlan P (interrupted k r p o)
  unfolding interrupted
  interrupt_fit zero o h = h
  interrupt_fit (suc k) o h = tt

  plan_fit : (v : View) → ((ws : VirtualWrites) → EachLocated P (located v ws)) → FitPlan P (user_plan r s p v)
  unfolding user_plan
  plan_fit v h = interrupt_fit (due 15 p (level_of s)) _ (command_fit v (user_command v r (flags_of s)) h)

-- ---- Calls

module _ (d : Desk) (P : ℕ → Type 0) (user : user_mode d.status ≡ true) where
  enter_fit : (b : Bool) (i : ℕ) (r : Registers) (x p new s : ℕ) → FitOutcome d P (enter_if b d i r x p new s)
  unfolding enter_if stop
  enter_fit false i r x p new s = refl
  enter_fit true i r x p new s = (length_saved r d.status x, refl)

  concluded_fit : (block : Memory) (c : Plan) → FitPlan P c → FitOutcome d P (concluded d block c)
  unfolding concluded completed
  concluded_fit block (continues r s ws) h =
      (record { user = lt-ltb s 0x8000_0000 h.0; map = refl; system = refl; control = refl }, h.1)
  concluded_fit block (enters i r x p) h =
      enter_fit (valid_kernel_status (entry_status block i)) i r x p (entry_r15 block i) (entry_status block i)

  pub user_step_fit : (v : View) (block : Memory) → ((ws : VirtualWrites) → EachLocated P (located v ws))
      → FitOutcome d P (user_step d v block)
  unfolding user_step
  user_step_fit v block h =
      concluded_fit block _
      (plan_fit P d.registers d.status d.pending (ltb-true d.status 0x8000_0000 user) v h)

  pub unless_fit : (a : Answer) (o : Outcome) → FitOutcome d P o → FitOutcome d P (unless_refused a d o)
  unfolding unless_refused unchanged
  unless_fit (Ok u) o h = h
  unless_fit (Err k) o h = (record { user = user; map = refl; system = refl; control = refl }, tt)

  pub request_fit : (level : ℕ) → FitOutcome d P (request_outcome d level)
  unfolding request_outcome
  request_fit level =
      unless_fit (request_refusal d level) _ (record { user = user; map = refl; system = refl; control = refl }, tt)

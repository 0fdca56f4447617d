-- No call stops a desk with the number whose bytes say that it runs: every stop has a number of the
-- papers, and these are small.
use Rattle.std.specs.Prelude.{Ok, Err}
use Prim.Native.Nat.{ℕ, zero, suc, ◌+◌, ◌≤◌}
use mathlib.Core.Path.{◌≡◌, refl, ap}
use mathlib.Core.Bool.{Bool, true, false, ◌&&◌}
use mathlib.Core.Logic.{◌≢◌}
use mathlib.Core.List.{List}
use native.Mathlib.Omega.{arith}
use borrow.Author.Tests.{eqb-false}
use lib.Dec.{eqb}
use lib.ListN.{length}
use Rattle.machine.specs.declared.VirtualAddress.{VirtualAddress}
use Rattle.machine.specs.declared.RealAddress.{RealAddress}
use Rattle.machine.specs.declared.Alarm.{Alarm}
use Rattle.machine.specs.declared.Alarm.TheVariants as alarms
use Rattle.machine.specs.declared.Map.{Map}
use Rattle.machine.specs.declared.Mark.{Mark}
use Rattle.machine.specs.declared.Mark.TheVariants.{Running, Stopped}
use Rattle.machine.specs.declared.Desk.{Desk}
use Rattle.machine.specs.declared.Refusal.{Refusal}
use Rattle.machine.specs.declared.Refusal.TheVariants as refusal
use Rattle.machine.specs.Words.{pick, Memory, word_at}
use Rattle.machine.specs.State.{Registers, user_mode, valid_user_status, system_block_of, control_block_bytes, block_fits}
use Rattle.machine.specs.State.{map_fits, is_running}
use Rattle.machine.specs.Alarms.{alarm_number, OrAlarm, got, alarm}
use Rattle.machine.specs.Map.{View, view_of, real_of, RealWrites, located, commit}
use Rattle.machine.specs.Commands.{Done, Completion, done, of_mode, KernelEffect, halts, resumes}
use Rattle.machine.specs.Steps.{Outcome, Plan, continues, enters, stop, halt, completed, enter_if, concluded, user_step}
use Rattle.machine.specs.Steps.{resume, kernel_written, of_kernel_command, kernel_step, one_step}
use Rattle.machine.specs.Calls.{Answer, refusal_number, fresh_desk, fresh_reply, fresh_refusal, fresh_of, unchanged, unless_refused}
use Rattle.machine.specs.Calls.{step_refusal, step_outcome, request_refusal, request_outcome, Ran, ran, steps_of}
use Rattle.machine.specs.Calls.{run_unless, run_of}
use Rattle.layout.specs.Layout.{runs, mark_number, mark_of, unpacked}

pub picked : {A : Type 0} (P : A → Type 0) (t : Bool) (a b : A) → P a → P b → P (pick t a b)
picked P true a b h k = h
picked P false a b h k = k

-- ---- The mark that a call leaves

-- its word represents it: it is not the stop whose word says that the desk runs
abbrev pub Representable : Mark → Type 0
Representable k = k ≢ Stopped runs

-- the highest number of an alarm; the refusals of a desk and stop 16 lie below it
abbrev pub highest : ℕ
highest = 21

stops : (n : ℕ) → n ≤ highest → Representable (Stopped n)
stops n h e = let q : n ≡ runs = ap mark_number e in omega arith

running : Representable Running
running e = let z : ◌≡◌ {A = ℕ} 0 1 = cc in omega arith

pub small_alarm : (a : Alarm) → alarm_number a ≤ highest
small_alarm alarms.Address = omega arith
small_alarm alarms.Absent = omega arith
small_alarm alarms.MapEntry = omega arith
small_alarm alarms.ReadOnly = omega arith
small_alarm alarms.Command = omega arith
small_alarm alarms.Mode = omega arith
small_alarm alarms.Operand = omega arith
small_alarm alarms.Divide = omega arith
small_alarm alarms.NoFetch = omega arith

pub small_number : (k : Refusal) → refusal_number k ≤ highest
small_number refusal.Length = omega arith
small_number refusal.SystemBlock = omega arith
small_number refusal.ControlBlock = omega arith
small_number refusal.Map = omega arith
small_number refusal.Status = omega arith
small_number refusal.Level = omega arith
small_number refusal.Stopped = omega arith

abbrev pub Leaves : Outcome → Type 0
Leaves o = Representable o.desk.mark

module _ (d : Desk) (represented : Representable d.mark) where
  resumed : (m : Memory) (a : RealAddress) → Leaves (resume d m a)
  unfolding resume stop
  resumed m a =
      let map : Map = record { base = record { 0 = word_at m (a.0 + 72) }; length = word_at m (a.0 + 76) } in
      picked Leaves (block_fits a control_block_bytes (length m) && map_fits map (length m) && valid_user_status
      (word_at m (a.0 + 64)))
      _ _ represented (stops 14 (omega arith))

  enters_if : (t : Bool) (i : ℕ) (r : Registers) (x p new s : ℕ) → Leaves (enter_if t d i r x p new s)
  unfolding enter_if stop
  enters_if false i r x p new s = stops 16 (omega arith)
  enters_if true i r x p new s = represented

  concludes : (block : Memory) (c : Plan) → Leaves (concluded d block c)
  unfolding concluded completed
  concludes block (continues r s ws) = represented
  concludes block (enters i r x p) = enters_if _ i r x p _ _

  kernel_written_lem : (c : Done) (t : OrAlarm RealWrites) → Leaves (kernel_written d c t)
  unfolding kernel_written completed stop
  kernel_written_lem c (got ws) = represented
  kernel_written_lem c (alarm n x) = stops (alarm_number n) (small_alarm n)

  kernel_ends : (m : Memory) (v : View) (o : OrAlarm (Completion KernelEffect)) → Leaves (of_kernel_command d m v o)
  unfolding of_kernel_command halt stop
  kernel_ends m v (got (done c)) = kernel_written_lem c (located v c.writes)
  kernel_ends m v (got (of_mode (halts r))) = stops 0 (omega arith)
  kernel_ends m v (got (of_mode (resumes x))) = resumed m (real_of x)
  kernel_ends m v (alarm n x) = stops (alarm_number n) (small_alarm n)

  one_step_lem : (m : Memory) → Leaves (one_step d m)
  unfolding one_step user_step kernel_step
  one_step_lem m = picked Leaves (user_mode d.status) _ _ (concludes (system_block_of d m) _) (kernel_ends m (view_of d m) _)

  unless : (a : Answer) (o : Outcome) → Leaves o → Leaves (unless_refused a d o)
  unfolding unless_refused unchanged
  unless (Ok u) o h = h
  unless (Err k) o h = represented

  -- a step
  pub step_represented : (m : Memory) → Leaves (step_outcome d m)
  unfolding step_outcome
  step_represented m = unless (step_refusal d (length m)) (one_step d m) (one_step_lem m)

  -- a level request
  pub request_represented : (level : ℕ) → Leaves (request_outcome d level)
  unfolding request_outcome
  request_represented level = unless (request_refusal d level) _ represented

steps_represented : (n k : ℕ) (d : Desk) (m : Memory) → Representable d.mark
    → Representable (steps_of n k d m).reply.desk.mark
unfolding steps_of
steps_represented zero k d m represented = represented
steps_represented (suc n) k d m represented =
    picked (λ (r : Ran). Representable r.reply.desk.mark) (is_running d.mark) _ (ran (Ok tt) k d m)
    (steps_represented n (suc k) (step_outcome d m).desk (commit (step_outcome d m).writes m)
    (step_represented d represented m)) represented

-- a run
pub run_represented : (n : ℕ) (d : Desk) (m : Memory) → Representable d.mark
    → Representable (run_of n d m).reply.desk.mark
unfolding run_of run_unless
run_represented n d m represented = go (step_refusal d (length m))
  where
    go : (a : Answer) → Representable (run_unless a d m (steps_of n 0 d m)).reply.desk.mark
    go (Ok u) = steps_represented n 0 d m represented
    go (Err k) = represented

-- a fresh desk
pub fresh_represented : (n : ℕ) (system control : RealAddress) (start : VirtualAddress)
    → Representable (fresh_of n system control start).desk.mark
unfolding fresh_of fresh_reply
fresh_represented n system control start = go (fresh_refusal n system control)
  where
    go : (a : Answer) → Representable (fresh_reply a (fresh_desk system control start)).desk.mark
    go (Ok u) = running
    go (Err k) = stops (refusal_number k) (small_number k)

-- the state that some bytes hold
pub unpacked_represented : (b : List ℕ) → Representable (unpacked b).mark
unfolding unpacked mark_of
unpacked_represented b = go (eqb (word_at b 84) runs) refl
  where
    go : (t : Bool) → eqb (word_at b 84) runs ≡ t → Representable (pick t Running (Stopped (word_at b 84)))
    go true q = running
    go false q = λ e. eqb-false (word_at b 84) runs q (ap mark_number e)

-- A command's end is the step, where no interrupt is due; else the step enters the level that is.
use Rattle.std.specs.Prelude.{Result, Ok, Err}
use Prim.Native.Nat.{ℕ, zero, suc, ◌+◌, ◌/◌, ◌<◌}
use mathlib.Core.Path.{◌≡◌, refl, sym, ap, ◌∙◌}
use mathlib.Core.Bool.{Bool, true, false}
use native.Mathlib.Decide.{dec_lt}
use native.Mathlib.Omega.{arith}
use borrow.Author.Tests.{lt-ltb, le-ltb}
use Rattle.machine.specs.declared.Fault.{Fault}
use Rattle.machine.specs.declared.Map.{Map}
use Rattle.machine.specs.declared.Desk.{Desk}
use Rattle.machine.specs.Words.{pick, Memory}
use Rattle.machine.specs.State.{Registers, user_mode, level_of, flags_of, without_level, system_block_of}
use Rattle.machine.specs.Alarms.{OrAlarm, got, alarm}
use Rattle.machine.specs.Map.{View, view_of, view_by, RealWrites, located}
use Rattle.machine.specs.Commands.{Done, Completion, done, of_mode, SystemCall, user_command, KernelEffect, halts}
use Rattle.machine.specs.Commands.{resumes, kernel_command}
use Rattle.machine.specs.Steps.{Plan, enters, completed, due, user_written, of_user_command}
use Rattle.machine.specs.Steps.{interrupted, user_plan, concluded, user_step, kernel_written, of_kernel_command}
use Rattle.machine.specs.Steps.{kernel_step, one_step}
use Rattle.machine.specs.Calls.{Stepped}
use Rattle.results.specs.declared.Out.{Out}
use Rattle.results.specs.declared.Out.TheVariants as out
use Rattle.results.specs.Ends.{End, command_done, system_called, halted, resumed, alarmed, out_as, written_end}
use Rattle.commands.specs.Execution.{user_end, kernel_end, exec_of}
use Rattle.entry.specs.Replies.{ResumesInKernelMode, shown, entered_by, concluded_end}
use Rattle.levels.specs.Due.{interrupt_of}

-- ---- The end is the step

module _ (d : Desk) (m : Memory) where
  written_end_lem : user_mode d.status ≡ true → (c : Done) (t : OrAlarm RealWrites)
      → entered_by d m (user_written d.registers d.status d.pending c t) ≡ concluded_end d m
      (written_end d.status m c t)
  unfolding user_written concluded completed concluded_end
  written_end_lem u c (got ws) = refl
  written_end_lem u c (alarm n x) = rw u

  user_end_lem : user_mode d.status ≡ true → (v : View) (t : OrAlarm (Completion SystemCall))
      → entered_by d m (of_user_command d.registers d.status d.pending v t) ≡ concluded_end d m
      (user_end d.status m v t)
  unfolding of_user_command concluded_end
  user_end_lem u v (got (done c)) = written_end_lem u c (located v c.writes)
  user_end_lem u v (got (of_mode c)) = refl
  user_end_lem u v (alarm n x) = rw u

  kernel_written_end : user_mode d.status ≡ false → (c : Done) (t : OrAlarm RealWrites)
      → shown (kernel_written d c t) m ≡ concluded_end d m (written_end d.status m c t)
  unfolding kernel_written completed concluded_end
  kernel_written_end u c (got ws) = refl
  kernel_written_end u c (alarm n x) = rw u

  kernel_end_lem : user_mode d.status ≡ false → (v : View) (t : OrAlarm (Completion KernelEffect))
      → shown (of_kernel_command d m v t) m ≡ concluded_end d m (kernel_end d.status m v t)
  unfolding of_kernel_command concluded_end
  kernel_end_lem u v (got (done c)) = kernel_written_end u c (located v c.writes)
  kernel_end_lem u v (got (of_mode (halts r))) = refl
  kernel_end_lem u v (got (of_mode (resumes a))) = refl
  kernel_end_lem u v (alarm n x) = rw u

  -- no interrupt is due
  step_ends : interrupt_of d.status d.pending ≡ 0
      → shown (one_step d m) m ≡ concluded_end d m (exec_of d.status d.map d.registers m)
  unfolding interrupt_of one_step user_step user_plan interrupted kernel_step exec_of
  step_ends e = go (user_mode d.status) refl e
    where
      v : View
      v = view_of d m

      go : (b : Bool) → user_mode d.status ≡ b → pick b (due 15 d.pending (level_of d.status)) 0 ≡ 0
          → shown (pick b (user_step d v (system_block_of d m)) (kernel_step d v m)) m
          ≡ concluded_end d m (pick b (user_end d.status m v (user_command v d.registers (flags_of d.status)))
          (kernel_end d.status m v (kernel_command v d.registers (flags_of d.status))))
      go true u z = rw z (user_end_lem u v (user_command v d.registers (flags_of d.status)))
      go false u z = kernel_end_lem u v (kernel_command v d.registers (flags_of d.status))

  pub command_step : interrupt_of d.status d.pending ≡ 0
      → {e : End} → e ≡ exec_of d.status d.map d.registers m → {s : Stepped} → s ≡ concluded_end d m e
      → s ≡ shown (one_step d m) m
  command_step none e g = g ∙ ap (concluded_end d m) e ∙ sym (step_ends none)

  -- ---- An interrupt is due

  entered : (k : ℕ) (r : Registers) (p : ℕ) (c : Plan) → 0 < k
      → interrupted k r p c ≡ enters (16 + k) r k (without_level p k)
  unfolding interrupted
  entered zero r p c h = absurd (omega arith)
  entered (suc k) r p c h = refl

  pub step_enters : (k : ℕ) → k ≡ interrupt_of d.status d.pending → 0 < k
      → (s : Stepped) → s ≡ entered_by d m (enters (16 + k) d.registers k (without_level d.pending k))
      → s ≡ shown (one_step d m) m
  unfolding interrupt_of one_step user_step user_plan
  step_enters k e h s g = g ∙ sym (go (user_mode d.status) e)
    where
      v : View
      v = view_of d m

      go : (b : Bool) → k ≡ pick b (due 15 d.pending (level_of d.status)) 0
          → shown (pick b (user_step d v (system_block_of d m)) (kernel_step d v m)) m ≡ entered_by d m
          (enters (16 + k) d.registers k (without_level d.pending k))
      go true z = rw (← z) (ap (entered_by d m) (entered k d.registers d.pending _ h))
      go false z = absurd (omega arith)

-- ---- Which level is due depends on mode and level alone

pub same_level : (s t p : ℕ) → t / 0x10 ≡ s / 0x10 → interrupt_of t p ≡ interrupt_of s p
unfolding interrupt_of
same_level s t p e = rw (e, same_mode (dec_lt s 0x8000_0000))
  where
    same_mode : Dec (s < 0x8000_0000) → user_mode t ≡ user_mode s
    same_mode (yes h) = rw (lt-ltb s 0x8000_0000, lt-ltb t 0x8000_0000 (omega arith))
    same_mode (no f) = rw (le-ltb s 0x8000_0000 (omega arith), le-ltb t 0x8000_0000 (omega arith))

-- ---- Only in kernel mode a command names a control block to resume from

abbrev Resumes : ℕ → End → Type 0
Resumes s (command_done r t n) = Unit {0}
Resumes s (system_called x r n) = Unit {0}
Resumes s (halted r n) = Unit {0}
Resumes s (resumed a n) = user_mode s ≡ false
Resumes s (alarmed k x n) = Unit {0}

written_resumes : (s : ℕ) (m : Memory) (c : Done) (t : OrAlarm RealWrites) → Resumes s (written_end s m c t)
written_resumes s m c (got ws) = tt
written_resumes s m c (alarm n x) = tt

exec_resumes : (s : ℕ) (map : Map) (r : Registers) (m : Memory) → Resumes s (exec_of s map r m)
unfolding exec_of
exec_resumes s map r m = go (user_mode s) refl
  where
    v : View
    v = view_by s map m

    user : (t : OrAlarm (Completion SystemCall)) → Resumes s (user_end s m v t)
    user (got (done c)) = written_resumes s m c (located v c.writes)
    user (got (of_mode c)) = tt
    user (alarm n x) = tt

    kernel : user_mode s ≡ false → (t : OrAlarm (Completion KernelEffect)) → Resumes s (kernel_end s m v t)
    kernel k (got (done c)) = written_resumes s m c (located v c.writes)
    kernel k (got (of_mode (halts q))) = tt
    kernel k (got (of_mode (resumes a))) = k
    kernel k (alarm n x) = tt

    go : (b : Bool) → user_mode s ≡ b
        → Resumes s (pick b (user_end s m v (user_command v r (flags_of s)))
        (kernel_end s m v (kernel_command v r (flags_of s))))
    go true k = user (user_command v r (flags_of s))
    go false k = kernel k (kernel_command v r (flags_of s))

pub resumes_in_kernel_mode : (s : ℕ) (map : Map) (r : Registers) (m : Memory) (o : Result Out Fault) (w : Registers)
    (y : Memory) → out_as o w y ≡ exec_of s map r m → ResumesInKernelMode s o
resumes_in_kernel_mode s map r m o w y e = go o (rw e (exec_resumes s map r m))
  where
    go : (o : Result Out Fault) → Resumes s (out_as o w y) → ResumesInKernelMode s o
    go (Ok (out.Done t)) h = tt
    go (Ok (out.System x)) h = tt
    go (Ok out.Halt) h = tt
    go (Ok (out.Resume a)) h = h
    go (Err f) h = tt

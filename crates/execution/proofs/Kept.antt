-- What a command keeps.
use Prim.Native.Nat.{ℕ, ◌/◌}
use mathlib.Core.Path.{◌≡◌, refl}
use mathlib.Core.Bool.{Bool, true, false}
use native.Mathlib.Omega.{arith}
use lib.ListN.{length}
use Rattle.machine.specs.declared.Map.{Map}
use Rattle.machine.specs.Words.{pick, Memory}
use Rattle.machine.specs.State.{Registers, user_mode, flags_of, with_flags}
use Rattle.machine.specs.Alarms.{OrAlarm, got, alarm}
use Rattle.machine.specs.Map.{View, view_by, RealWrites, located}
use Rattle.machine.specs.Commands.{Done, Completion, done, of_mode, SystemCall, user_command, KernelEffect, halts}
use Rattle.machine.specs.Commands.{resumes, kernel_command}
use Rattle.machine.proofs.Writes.{commit-length}
use Rattle.results.specs.Ends.{End, command_done, system_called, halted, resumed, alarmed, written_end}
use Rattle.commands.specs.Execution.{user_end, kernel_end, exec_of}

-- one that ends quietly, mode and level and the memory's length; any other, the memory
abbrev pub Kept : ℕ → Memory → End → Type 0
Kept s m (command_done r t n) = (t / 0x10 ≡ s / 0x10) × (length n ≡ length m)
Kept s m (system_called x r n) = n ≡ m
Kept s m (halted r n) = n ≡ m
Kept s m (resumed a n) = n ≡ m
Kept s m (alarmed k x n) = n ≡ m

module _ (s : ℕ) (m : Memory) where
  flags-kept : (f : ℕ) → with_flags s f / 0x10 ≡ s / 0x10
  unfolding with_flags
  flags-kept f = omega arith

  written_kept : (c : Done) (t : OrAlarm RealWrites) → Kept s m (written_end s m c t)
  written_kept c (got ws) = (flags-kept c.flags, commit-length ws m)
  written_kept c (alarm n x) = refl

  user_kept : (v : View) (t : OrAlarm (Completion SystemCall)) → Kept s m (user_end s m v t)
  user_kept v (got (done c)) = written_kept c (located v c.writes)
  user_kept v (got (of_mode c)) = refl
  user_kept v (alarm n x) = refl

  kernel_kept : (v : View) (t : OrAlarm (Completion KernelEffect)) → Kept s m (kernel_end s m v t)
  kernel_kept v (got (done c)) = written_kept c (located v c.writes)
  kernel_kept v (got (of_mode (halts r))) = refl
  kernel_kept v (got (of_mode (resumes a))) = refl
  kernel_kept v (alarm n x) = refl

  pub exec_kept : (map : Map) (r : Registers) → Kept s m (exec_of s map r m)
  unfolding exec_of
  exec_kept map r = go (user_mode s)
    where
      v : View
      v = view_by s map m

      go : (b : Bool)
          → Kept s m (pick b (user_end s m v (user_command v r (flags_of s)))
          (kernel_end s m v (kernel_command v r (flags_of s))))
      go true = user_kept v (user_command v r (flags_of s))
      go false = kernel_kept v (kernel_command v r (flags_of s))

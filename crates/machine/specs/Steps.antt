-- Document 01, "One step": the interrupt that is due, what becomes of a command in user mode and in
-- kernel mode, kernel entry, RESUME, stops. A command comes to a `Completion` (Commands.antt); a
-- step in user mode takes a `Plan` from it, without the system block; a step's `Outcome` is the
-- state that it leaves, an `Event`, and the bytes that it writes.
use Rattle.std.specs.Prelude.{ℕ, zero, suc, ◌+◌, Bool, true, false, ◌&&◌, List, [], ltb, length, set}
use Rattle.machine.specs.declared.RealAddress.{RealAddress}
use Rattle.machine.specs.declared.Alarm.TheVariants as alarms
use Rattle.machine.specs.declared.Map.{Map}
use Rattle.machine.specs.declared.Mark.TheVariants.{Stopped}
use Rattle.machine.specs.declared.Desk.{Desk}
use Rattle.machine.specs.Words.{pick, Memory, word_at, words_at}
use Rattle.machine.specs.State.{Registers, user_mode, level_of, flags_of, with_flags, valid_user_status}
use Rattle.machine.specs.State.{valid_kernel_status, is_pending, without_level, system_block_of, entry_r15}
use Rattle.machine.specs.State.{entry_status, control_block_bytes, saved_bytes, block_fits, map_fits, desk_with}
use Rattle.machine.specs.State.{desk_resumed}
use Rattle.machine.specs.Alarms.{alarm_number, alarm_cause, OrAlarm, got, alarm}
use Rattle.machine.specs.Map.{View, real_of, view_of, RealWrites, real_writes_from, located}
use Rattle.machine.specs.Commands.{Done, Completion, done, of_mode, SystemCall, user_command, KernelEffect, halts}
use Rattle.machine.specs.Commands.{resumes, kernel_command}

-- ---- What a step shows

-- quiet: nothing but the state that it leaves (a refused call and a level request too); a kernel
-- entry with its cause and saved bytes; a stop with its number
pub data Event : Type 0 where
  quiet : Event
  entered : ℕ → List ℕ → Event
  stopped : ℕ → Event

pub record Outcome : Type 0 where
  pub desk : Desk
  pub event : Event
  pub writes : RealWrites

-- ---- Stops

-- "stops the desk with its number and all else as before the command"
unfoldable pub stop : ℕ → Desk → Outcome
stop n d =
    record { desk = desk_with d d.registers d.status d.pending (Stopped n); event = stopped n; writes = [] }

-- "HALT stops with 0, R15 past it"
unfoldable pub halt : Registers → Desk → Outcome
halt r d = record { desk = desk_with d r d.status d.pending (Stopped 0); event = stopped 0; writes = [] }

-- the registers, the status and the memory change, nothing else
unfoldable pub completed : Registers → ℕ → RealWrites → Desk → Outcome
completed r s ws d = record { desk = desk_with d r s d.pending d.mark; event = quiet; writes = ws }

-- ---- User mode: what a step comes to, from registers r, status s, pending set p and view v alone

pub data Plan : Type 0 where
  -- new registers and status, and real writes
  continues : Registers → ℕ → RealWrites → Plan
  -- a kernel entry: cause, registers to save, argument, the pending set left
  enters : ℕ → Registers → ℕ → ℕ → Plan

-- the highest level from k down that is pending and above l; 0 for none
unfoldable pub due : ℕ → ℕ → ℕ → ℕ
due zero p l = 0
due (suc k) p l = pick (is_pending p (suc k) && ltb l (suc k)) (suc k) (due k p l)

-- "An alarm undoes the command's register changes and writes nothing": it saves the registers r
-- from the command's start
unfoldable pub user_written : Registers → ℕ → ℕ → Done → OrAlarm RealWrites → Plan
user_written r s p d (got ws) = continues d.registers (with_flags s d.flags) ws
user_written r s p d (alarm k x) = enters (alarm_cause k) r x p

-- cause "1 for a system call (argument its value, saved R15 the next command)", "the alarm number
-- otherwise (saved R15 the command's own address)" (F-4: 2 for alarm 21)
unfoldable pub of_user_command : Registers → ℕ → ℕ → View → OrAlarm (Completion SystemCall) → Plan
of_user_command r s p v (got (done d)) = user_written r s p d (located v d.writes)
of_user_command r s p v (got (of_mode c)) = enters 1 c.registers c.argument p
of_user_command r s p v (alarm k x) = enters (alarm_cause k) r x p

-- "the highest pending level above the status level is entered and its pending bit cleared": cause
-- "16 + level", "argument the level"
unfoldable pub interrupted : ℕ → Registers → ℕ → Plan → Plan
interrupted zero r p otherwise = otherwise
interrupted (suc k) r p otherwise = enters (16 + suc k) r (suc k) (without_level p (suc k))

-- "that entry is a whole step. Otherwise one command runs"
unfoldable pub user_plan : Registers → ℕ → ℕ → View → Plan
user_plan r s p v = interrupted (due 15 p (level_of s)) r p (of_user_command r s p v (user_command v r (flags_of s)))

-- ---- Kernel entry

-- "Kernel entry with cause i reads entry i of the system block, writes R0 to R15, status and
-- argument to the control block, then sets R15 and status." "An entry's saved bytes are those it
-- writes to the control block." 16 "does the same and saves nothing, pending bit kept" cause i,
-- registers r to save, argument x, pending set p left, new R15 and new status; 16: "the system
-- block's entry holds no valid kernel status"
unfoldable pub enter_if : Bool → Desk → ℕ → Registers → ℕ → ℕ → ℕ → ℕ → Outcome
enter_if false d i r x p new s = stop 16 d
enter_if true d i r x p new s = record {
  desk = desk_with d (set r 15 new) s p d.mark;
  event = entered i (saved_bytes r d.status x);
  writes = real_writes_from d.control.0 (saved_bytes r d.status x);
}

unfoldable pub concluded : Desk → Memory → Plan → Outcome
concluded d block (continues r s ws) = completed r s ws d
concluded d block (enters i r x p) =
    enter_if (valid_kernel_status (entry_status block i)) d i r x p (entry_r15 block i) (entry_status block i)

unfoldable pub user_step : Desk → View → Memory → Outcome
user_step d v block = concluded d block (user_plan d.registers d.status d.pending v)

-- ---- Kernel mode: "an alarm stops the desk with its number"

-- RESUME of the block at address a, which is real: it "loads R0 to R15, status, map base and map
-- length from the control block at its address, which becomes the control block; the desk holds no
-- argument, so that word is not loaded"; 14 where
-- "RESUME's block breaks 3 or 4 or its status isn't a valid user status", since "A block that
-- doesn't fit is alarm 14, never 8"
unfoldable pub resume : Desk → Memory → RealAddress → Outcome
resume d m a =
    let s = word_at m (a.0 + 64) in
    let map : Map = record { base = record { 0 = word_at m (a.0 + 72) }; length = word_at m (a.0 + 76) } in
    pick (block_fits a control_block_bytes (length m) && map_fits map (length m) && valid_user_status s)
    (record { desk = desk_resumed d (words_at 16 m a.0) s map a; event = quiet; writes = [] })
    (stop (alarm_number alarms.Operand) d)

unfoldable pub kernel_written : Desk → Done → OrAlarm RealWrites → Outcome
kernel_written d c (got ws) = completed c.registers (with_flags d.status c.flags) ws d
kernel_written d c (alarm k x) = stop (alarm_number k) d

unfoldable pub of_kernel_command : Desk → Memory → View → OrAlarm (Completion KernelEffect) → Outcome
of_kernel_command d m v (got (done c)) = kernel_written d c (located v c.writes)
of_kernel_command d m v (got (of_mode (halts r))) = halt r d
of_kernel_command d m v (got (of_mode (resumes x))) = resume d m (real_of x)
of_kernel_command d m v (alarm k x) = stop (alarm_number k) d

unfoldable pub kernel_step : Desk → View → Memory → Outcome
kernel_step d v m = of_kernel_command d m v (kernel_command v d.registers (flags_of d.status))

-- ---- One step of a desk that is not refused

unfoldable pub one_step : Desk → Memory → Outcome
one_step d m = pick (user_mode d.status) (user_step d (view_of d m) (system_block_of d m)) (kernel_step d (view_of d m) m)

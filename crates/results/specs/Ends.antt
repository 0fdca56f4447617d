-- How a command ends, with the registers and the memory that it leaves, in the terms of `machine`.
use Rattle.std.specs.Prelude.{ℕ, Result, Ok, Err}
use Rattle.machine.specs.declared.VirtualAddress.{VirtualAddress}
use Rattle.machine.specs.declared.Alarm.{Alarm}
use Rattle.machine.specs.declared.Fault.{Fault}
use Rattle.machine.specs.declared.Map.{Map}
use Rattle.machine.specs.Words.{Memory}
use Rattle.machine.specs.State.{Registers, with_flags}
use Rattle.machine.specs.Alarms.{OrAlarm, got, alarm}
use Rattle.machine.specs.Map.{View, view_by, RealWrites, located, commit}
use Rattle.machine.specs.Commands.{Done}
use Rattle.stores.specs.Answers.{StoreEnd, wrote, failed}
use Rattle.results.specs.declared.Out.{Out}
use Rattle.results.specs.declared.Out.TheVariants as out

pub data End : Type 0 where
  -- new registers, status and memory
  command_done : Registers → ℕ → Memory → End
  -- a system call: argument and registers
  system_called : ℕ → Registers → Memory → End
  halted : Registers → Memory → End
  -- a control block's address
  resumed : VirtualAddress → Memory → End
  -- an alarm with its argument
  alarmed : Alarm → ℕ → Memory → End

abbrev pub out_as : Result Out Fault → Registers → Memory → End
out_as (Ok (out.Done s)) r m = command_done r s m
out_as (Ok (out.System x)) r m = system_called x r m
out_as (Ok out.Halt) r m = halted r m
out_as (Ok (out.Resume a)) r m = resumed a m
out_as (Err e) r m = alarmed e.alarm e.argument m

-- a store that ended, with the registers r and the status s for its success
abbrev pub after_store : StoreEnd → Registers → ℕ → End
after_store (wrote m) r s = command_done r s m
after_store (failed k x m) r s = alarmed k x m

-- ---- From what a command came to, with status s, memory m and view v

abbrev pub written_end : ℕ → Memory → Done → OrAlarm RealWrites → End
written_end s m d (got ws) = command_done d.registers (with_flags s d.flags) (commit ws m)
written_end s m d (alarm k x) = alarmed k x m

abbrev pub done_end : ℕ → Memory → View → OrAlarm Done → End
done_end s m v (got d) = written_end s m d (located v d.writes)
done_end s m v (alarm k x) = alarmed k x m

-- the end of a command that sees the memory by status and map
abbrev pub end_in : ℕ → Map → Memory → (View → OrAlarm Done) → End
end_in s map m command = done_end s m (view_by s map m) (command (view_by s map m))

-- The command at R15 and how it ends, in the terms of `machine`.
use Rattle.std.specs.Prelude.{ℕ, [], set, Ok, Err}
use Rattle.machine.specs.declared.Map.{Map}
use Rattle.machine.specs.declared.Target.{Target}
use Rattle.machine.specs.Words.{pick, Memory, length_of}
use Rattle.machine.specs.State.{Registers, reg, user_mode, flags_of, with_flags}
use Rattle.machine.specs.Alarms.{OrAlarm, got, alarm}
use Rattle.machine.specs.Map.{View, view_by}
use Rattle.machine.specs.Commands.{stored, pushed, popped_done, called, returned_done, Completion, done, of_mode}
use Rattle.machine.specs.Commands.{SystemCall, user_command, KernelEffect, halts, resumes, kernel_command}
use Rattle.actions.specs.declared.Action.{Action}
use Rattle.actions.specs.declared.Action.TheVariants as action
use Rattle.actions.specs.Actions.{Asked}
use Rattle.results.specs.Ends.{End, command_done, system_called, halted, resumed, alarmed, done_end}

abbrev pub user_end : ℕ → Memory → View → OrAlarm (Completion SystemCall) → End
user_end s m v (got (done d)) = done_end s m v (got d)
user_end s m v (got (of_mode c)) = system_called c.argument c.registers m
user_end s m v (alarm k x) = alarmed k x m

abbrev pub kernel_end : ℕ → Memory → View → OrAlarm (Completion KernelEffect) → End
kernel_end s m v (got (done d)) = done_end s m v (got d)
kernel_end s m v (got (of_mode (halts r))) = halted r m
kernel_end s m v (got (of_mode (resumes a))) = resumed a m
kernel_end s m v (alarm k x) = alarmed k x m

-- the command at R15, in the mode that the status tells
unfoldable pub exec_of : ℕ → Map → Registers → Memory → End
exec_of s map r m =
    pick (user_mode s)
    (user_end s m (view_by s map m) (user_command (view_by s map m) r (flags_of s)))
    (kernel_end s m (view_by s map m) (kernel_command (view_by s map m) r (flags_of s)))

-- ---- From what its byte asks for, once its operands are taken: x is the first number, t the target

unfoldable pub action_end : ℕ → Memory → View → Registers → ℕ → Target → Action → End
action_end s m v r x t (action.Give size y) = done_end s m v (got (stored (length_of size) y t r))
action_end s m v r x t (action.Flags f) = command_done r (with_flags s f) m
action_end s m v r x t (action.Jump b) = command_done (pick b (set r 15 x) r) s m
action_end s m v r x t action.Push = done_end s m v (got (pushed 15 (reg r 14) r [] (flags_of s)))
action_end s m v r x t action.Pop = done_end s m v (popped_done v r (flags_of s))
action_end s m v r x t action.Call = done_end s m v (got (called x r (flags_of s)))
action_end s m v r x t action.Return = done_end s m v (returned_done v r (flags_of s))
action_end s m v r x t action.System = system_called x r m
action_end s m v r x t action.Halt = halted r m
action_end s m v r x t action.Resume = resumed (record { 0 = x }) m

-- the same of what the byte asks for, or of its alarm
abbrev pub asked_end : ℕ → Memory → View → Registers → ℕ → Target → Asked → End
asked_end s m v r x t (Ok a) = action_end s m v r x t a
asked_end s m v r x t (Err e) = alarmed e.alarm e.argument m

-- What a command byte asks for, once its operands are taken: the operation stage of `machine`'s
-- commands, as one function of the byte, the flags and the first two operands' numbers.
use Rattle.std.specs.Prelude.{ℕ, Result, Ok, Err}
use Rattle.std.proofs.Math.Option.{Option, none, some}
use Rattle.machine.specs.declared.Size.{Size}
use Rattle.machine.specs.declared.IntegerResult.{IntegerResult}
use Rattle.machine.specs.declared.Alarm.TheVariants as alarms
use Rattle.machine.specs.declared.Fault.{Fault}
use Rattle.machine.specs.Words.{length_of}
use Rattle.machine.specs.Alarms.{OrAlarm, got, alarm}
use Rattle.machine.specs.Code.{Operation, Common, result, CMP, PUSHR, POPR, jump, CALL, RET}
use Rattle.machine.specs.Code.{Command, common, user_only, system_call, kernel_only, HALT, RESUME, Known, known}
use Rattle.machine.specs.Integers.{natural, operate, compared}
use Rattle.machine.specs.Commands.{jumps}
use Rattle.actions.specs.declared.Action.{Action}
use Rattle.actions.specs.declared.Action.TheVariants as action

-- what a command asks for, or the alarm that it breaks off with
abbrev pub Asked : Type 0
Asked = Result Action Fault

-- a result for the target, or the alarm that it broke off with
abbrev pub given : Size → OrAlarm IntegerResult → Asked
given s (got x) = Ok (action.Give s x)
given s (alarm k a) = Err (record { alarm = k; argument = a })

-- an operation on the last L bytes of the two numbers
abbrev pub result_action : Operation → Size → ℕ → ℕ → Asked
result_action op s x y = given s (operate op (length_of s) (natural (length_of s) x) (natural (length_of s) y))

-- the commands that both modes allow
abbrev pub common_action : Common → ℕ → ℕ → ℕ → Asked
common_action (result op s) f x y = result_action op s x y
common_action (CMP s) f x y = Ok (action.Flags (compared (length_of s) (natural (length_of s) x) (natural (length_of s) y)))
common_action PUSHR f x y = Ok action.Push
common_action POPR f x y = Ok action.Pop
common_action (jump c) f x y = Ok (action.Jump (jumps c f))
common_action CALL f x y = Ok action.Call
common_action RET f x y = Ok action.Return

-- with those of one mode: the mode was tested before
abbrev pub command_action : Command → ℕ → ℕ → ℕ → Asked
command_action (common c) f x y = common_action c f x y
command_action (user_only system_call) f x y = Ok action.System
command_action (kernel_only HALT) f x y = Ok action.Halt
command_action (kernel_only RESUME) f x y = Ok action.Resume

-- 12: "the command byte is unknown", with the byte as argument
abbrev pub known_action : Option Known → ℕ → ℕ → ℕ → ℕ → Asked
known_action none b f x y = Err (record { alarm = alarms.Command; argument = b })
known_action (some k) b f x y = command_action k.command f x y

-- the byte b with the flags f and the numbers x and y of the first two operands
unfoldable pub action_of : ℕ → ℕ → ℕ → ℕ → Asked
action_of b f x y = known_action (known b) b f x y

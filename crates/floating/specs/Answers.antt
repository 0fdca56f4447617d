-- What the operands of a floating command give, and what its byte asks for, in the terms of `machine`.
use Rattle.std.specs.Prelude.{ℕ, ◌≡◌, Result, Ok, Err}
use Rattle.std.proofs.Math.Option.{Option, none, some}
use Rattle.machine.specs.declared.Alarm.TheVariants as alarms
use Rattle.machine.specs.declared.Fault.{Fault}
use Rattle.machine.specs.declared.Kind.{Kind}
use Rattle.machine.specs.declared.Role.{Role}
use Rattle.machine.specs.declared.VirtualAddress.{VirtualAddress}
use Rattle.machine.specs.declared.Target.{Target}
use Rattle.machine.specs.Words.{Memory}
use Rattle.machine.specs.State.{Registers, with_flags}
use Rattle.machine.specs.Alarms.{OrAlarm, got, answered, ◌>>=◌}
use Rattle.machine.specs.Map.{View}
use Rattle.machine.specs.Operands.{memory, Operand, at, Taken as Given, Operands as AllGiven}
use Rattle.machine.specs.Floats.{number_of, arithmetic, moved_float, compared_floats}
use Rattle.machine.specs.FloatCode as float
use Rattle.machine.specs.FloatCode.{FloatCommand, KnownFloat, known_float, float_taken_by}
use Rattle.machine.specs.Commands.{float_stored}
use Rattle.forms.specs.Answers.{SmallTarget}
use Rattle.results.specs.Ends.{End, command_done, alarmed, done_end}
use Rattle.floating.specs.declared.Taken.{Taken}
use Rattle.floating.specs.declared.Operands.{Operands}
use Rattle.floating.specs.declared.Action.{Action}
use Rattle.floating.specs.declared.Action.TheVariants as action

-- ---- Operands

-- what a role takes from an operand
abbrev pub float_taken_from : View → ℕ → Kind → Role → OrAlarm Operand → OrAlarm Given
float_taken_from v place k role p = p >>= (λ o. float_taken_by v place k o role)

abbrev pub taken_as : Result Taken Fault → OrAlarm Given
taken_as t = answered (λ g. record { number = g.bits; target = g.target }) t

abbrev pub SmallTaken : Result Taken Fault → Type 0
SmallTaken (Ok g) = SmallTarget g.target
SmallTaken (Err e) = Unit {0}

-- from memory, at any place and over any registers
pub record TakesMemory (t : Result Taken Fault) (v : View) (k : Kind) (role : Role) (a : VirtualAddress) : Type 0 where
  pub same : (place : ℕ) (r : Registers) → taken_as t ≡ float_taken_from v place k role (at (memory a) r)

abbrev pub operands_as : Result Operands Fault → Registers → OrAlarm AllGiven
operands_as o r = answered (λ g. record { first = g.first; second = g.second; target = g.target; registers = r }) o

abbrev pub SmallOperands : Result Operands Fault → Type 0
SmallOperands (Ok g) = SmallTarget g.target
SmallOperands (Err e) = Unit {0}

-- ---- What a command byte asks for, once its operands are taken

abbrev pub command_action : FloatCommand → Kind → ℕ → ℕ → Action
command_action (float.gives op) k x y = action.Give (arithmetic op k x y)
command_action float.MOVE k x y = action.Give (moved_float k x)
command_action float.CMP k x y = action.Flags (compared_floats (number_of k x) (number_of k y))

-- 12: "the command byte is unknown", with the byte as argument
abbrev pub known_action : Option KnownFloat → ℕ → Kind → ℕ → ℕ → Result Action Fault
known_action none b k x y = Err (record { alarm = alarms.Command; argument = b })
known_action (some q) b k x y = Ok (command_action q.command k x y)

-- the byte b of a kind with the bits x and y of the first two operands
unfoldable pub float_action : ℕ → Kind → ℕ → ℕ → Result Action Fault
float_action b k x y = known_action (known_float b) b k x y

-- and how the command ends with it, from registers r, for the target t
abbrev pub action_end : ℕ → Memory → View → Kind → Registers → Target → Result Action Fault → End
action_end s m v k r t (Ok (action.Give x)) = done_end s m v (got (float_stored k x t r))
action_end s m v k r t (Ok (action.Flags f)) = command_done r (with_flags s f) m
action_end s m v k r t (Err e) = alarmed e.alarm e.argument m

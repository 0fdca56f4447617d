-- A floating command ends with the first alarm of byte and operands, or with what its byte asks for.
use Prim.Native.Nat.{ℕ}
use mathlib.Core.Path.{◌≡◌, refl}
use mathlib.Core.Option.{Option, none, some}
use Rattle.std.specs.Prelude.{Ok}
use Rattle.machine.specs.declared.Alarm.{Alarm}
use Rattle.machine.specs.declared.Kind.{Kind}
use Rattle.machine.specs.Words.{Memory}
use Rattle.machine.specs.State.{Registers}
use Rattle.machine.specs.Alarms.{OrAlarm, got, alarm, ◌>>=◌}
use Rattle.machine.specs.Map.{View, located, commit}
use Rattle.machine.specs.Operands.{Operands}
use Rattle.machine.specs.FloatCode as float
use Rattle.machine.specs.FloatCode.{FloatCommand, KnownFloat, known_float, float_operands_from, float_operands_of}
use Rattle.machine.specs.Commands.{Done, known_or12, float_done, float_command}
use Rattle.rules.specs.Rules.{known_kind, known_roles}
use Rattle.results.specs.Ends.{alarmed, done_end}
use Rattle.floating.specs.Answers.{command_action, known_action, float_action, action_end}

module _ (s : ℕ) (m : Memory) (v : View) (r : Registers) (b : ℕ) where
  -- the command that the byte b is
  of_known : Option KnownFloat → OrAlarm Done
  of_known q =
      known_or12 b q
      >>= (λ k. float_operands_of v k.kind k.roles r >>= (λ o. got (float_done k.command k.kind o)))

  alarm_known : (q : Option KnownFloat) (n : Alarm) (x : ℕ)
      → alarm n x ≡ float_operands_of v (known_kind q) (known_roles q) r → alarmed n x m ≡ done_end s m v (of_known q)
  unfolding of_known known_or12 float_operands_from
  alarm_known none n x h = cc
  alarm_known (some k) n x h = rw (← h)

  done_end_lem : (c : FloatCommand) (k : Kind) (o : Operands)
      → action_end s m v k o.registers o.target (Ok (command_action c k o.first o.second)) ≡ done_end s m v
      (got (float_done c k o))
  unfolding float_done located commit
  done_end_lem (float.gives op) k o = refl
  done_end_lem float.MOVE k o = refl
  done_end_lem float.CMP k o = refl

  action_known : (q : Option KnownFloat) (o : Operands)
      → got o ≡ float_operands_of v (known_kind q) (known_roles q) r
      → action_end s m v (known_kind q) o.registers o.target
      (known_action q b (known_kind q) o.first o.second) ≡ done_end s m v (of_known q)
  unfolding of_known known_or12
  action_known none o h = refl
  action_known (some k) o h = rw (← h) (done_end_lem k.command k.kind o)

  pub command_alarm : (n : Alarm) (x : ℕ)
      → alarm n x ≡ float_operands_of v (known_kind (known_float b)) (known_roles (known_float b)) r
      → alarmed n x m ≡ done_end s m v (float_command b v r)
  unfolding float_command of_known
  command_alarm n x h = alarm_known (known_float b) n x h

  pub command_action_lem : (o : Operands)
      → got o ≡ float_operands_of v (known_kind (known_float b)) (known_roles (known_float b)) r
      → action_end s m v (known_kind (known_float b)) o.registers o.target
      (float_action b (known_kind (known_float b)) o.first o.second) ≡ done_end s m v (float_command b v r)
  unfolding float_command float_action of_known
  command_action_lem o h = action_known (known_float b) o h

-- What the quick way says of a command: that it ends so, or nothing.
use Rattle.std.specs.Prelude.{ℕ, ◌≡◌, List, Option, Some, None}
use Rattle.machine.specs.declared.Map.{Map}
use Rattle.machine.specs.declared.IntegerResult.{IntegerResult}
use Rattle.machine.specs.declared.Target.{Target}
use Rattle.machine.specs.Words.{Memory}
use Rattle.machine.specs.State.{Registers, flags_of}
use Rattle.machine.specs.Alarms.{got}
use Rattle.machine.specs.Map.{view_by}
use Rattle.machine.specs.Code.{Rule}
use Rattle.machine.specs.Commands.{stored}
use Rattle.machine.specs.Operands.{Operands, operands_of}
use Rattle.actions.specs.Actions.{action_of}
use Rattle.results.specs.Ends.{End, command_done, end_in}
use Rattle.commands.specs.Execution.{exec_of, asked_end}
use Rattle.sure.specs.Answers.{OnlyR15}

-- the command at R15, from registers r and memory m on to registers q and memory n: it ends quietly
-- with the status t; or nothing has changed
abbrev pub Quietly : ℕ → Map → Registers → Memory → Registers → Memory → Option ℕ → Type 0
Quietly s map r m q n (Some t) = command_done q t n ≡ exec_of s map r m
Quietly s map r m q n None = (q ≡ r) × (n ≡ m)

-- a result of L bytes that goes to a target ends the command with these registers, status and memory
abbrev pub Ends : ℕ → ℕ → Map → Memory → Registers → IntegerResult → Target → Registers → ℕ → Memory → Type 0
Ends L s map m r x t q u n = command_done q u n ≡ end_in s map m (λ v. got (stored L x t r))

-- a command with this end, its operands taken: it ended so; or nothing has changed
abbrev pub Finishes : End → Registers → Memory → Registers → Memory → Option ℕ → Type 0
Finishes e r m q n (Some t) = command_done q t n ≡ e
Finishes e r m q n None = (q ≡ r) × (n ≡ m)

-- a command whose operands are taken by these rules, from registers r on
pub record Carried (s : ℕ) (map : Map) (b : ℕ) (ks : List Rule) (r : Registers) (m : Memory) (e : End) : Type 0 where
  pub operands : Operands
  pub taken : got operands ≡ operands_of (view_by s map m) ks r
  pub same : e
      ≡ asked_end s m (view_by s map m) operands.registers operands.first operands.target
      (action_of b (flags_of s) operands.first operands.second)

abbrev pub CarriesOut : ℕ → Map → ℕ → List Rule → Registers → Memory → Registers → Memory → Option ℕ → Type 0
CarriesOut s map b ks r m q n (Some t) = Carried s map b ks r m (command_done q t n)
CarriesOut s map b ks r m q n None = OnlyR15 r q × (n ≡ m)

-- What the operands of a command give, and where its result goes, in the terms of `machine`.
use Rattle.std.specs.Prelude.{ℕ, ◌≡◌, Result, Ok, Err}
use Rattle.machine.specs.declared.Access.TheVariants.{Write}
use Rattle.machine.specs.declared.Fault.{Fault}
use Rattle.machine.specs.declared.Map.{Map}
use Rattle.machine.specs.declared.Size.TheVariants.{W}
use Rattle.machine.specs.declared.Target.{Target}
use Rattle.machine.specs.declared.Target.TheVariants as target
use Rattle.machine.specs.Words.{Memory}
use Rattle.machine.specs.State.{Registers}
use Rattle.machine.specs.Alarms.{OrAlarm, answered}
use Rattle.machine.specs.Operands.{Operands}
use Rattle.rules.specs.Rules.{size_in, rules_in, AllOf}
use Rattle.forms.specs.Answers.{SmallTarget}
use Rattle.sure.specs.declared.Goes.{Goes}
use Rattle.sure.specs.Answers.{Placed, Reaches, target_of}
use Rattle.commands.specs.declared.Goal.{Goal}
use Rattle.commands.specs.declared.Goal.TheVariants as goal
use Rattle.commands.specs.declared.Given.{Given}

-- ---- Where a result goes

abbrev pub target_at : Goal → Target
target_at (goal.Found x a) = target.Memory x
target_at (goal.Named t) = t

-- it can go there: the place that was found is that of a whole word and may be written, a register
-- is one of the sixteen
abbrev pub Attained : ℕ → Map → Memory → Goal → Type 0
Attained s map m (goal.Found x a) = Placed s map m 4 x Write a
Attained s map m (goal.Named t) = SmallTarget t

-- the goal is the same target, and is attained where a word reaches that
pub record Aims (g : Goes) (t : Goal) : Type 0 where
  pub same : target_at t ≡ target_of g
  pub attained : (s : ℕ) (map : Map) (m : Memory) → Reaches 4 s map m g → Attained s map m t

-- ---- Operands

-- operands of which the first is a word are all words
pub record Uniform (rules : ℕ) : Type 0 where
  pub words : W ≡ size_in rules → AllOf W (rules_in rules)

-- what they give, over the registers that they leave
abbrev pub given_as : Result Given Fault → Registers → OrAlarm Operands
given_as o r =
    answered (λ g. record { first = g.first; second = g.second; target = target_at g.goal; registers = r }) o

abbrev pub AttainedBy : ℕ → Map → Memory → Result Given Fault → Type 0
AttainedBy s map m (Ok g) = Attained s map m g.goal
AttainedBy s map m (Err e) = Unit {0}

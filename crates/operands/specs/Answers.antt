-- What the operands give, in the terms of `machine`.
use Rattle.std.specs.Prelude.{ℕ, ◌%◌, ◌≡◌, Result, Ok, Err}
use Rattle.machine.specs.declared.Fault.{Fault}
use Rattle.machine.specs.declared.Role.{Role}
use Rattle.machine.specs.declared.Role.TheVariants.{Value, Address, Destination, Update}
use Rattle.machine.specs.declared.VirtualAddress.{VirtualAddress}
use Rattle.machine.specs.declared.Target.{Target}
use Rattle.machine.specs.declared.Target.TheVariants as target
use Rattle.machine.specs.Words.{span}
use Rattle.machine.specs.State.{Registers, reg}
use Rattle.machine.specs.Alarms.{OrAlarm, answered, ◌>>=◌}
use Rattle.machine.specs.Map.{View}
use Rattle.machine.specs.Operands.{Location, register, memory, Operand, at, Taken as Given, taken_by}
use Rattle.machine.specs.Operands.{Operands as AllGiven}
use Rattle.forms.specs.Answers.{SmallTarget}
use Rattle.operands.specs.declared.Taken.{Taken}
use Rattle.operands.specs.declared.Operands.{Operands}

-- what a role takes from an operand
abbrev pub taken_from : View → ℕ → ℕ → Role → OrAlarm Operand → OrAlarm Given
taken_from v place L k p = p >>= (λ o. taken_by v place L o k)

abbrev pub taken_as : Result Taken Fault → OrAlarm Given
taken_as t = answered (λ g. record { number = g.number; target = g.target }) t

abbrev pub SmallTaken : Result Taken Fault → Type 0
SmallTaken (Ok g) = SmallTarget g.target
SmallTaken (Err e) = Unit {0}

-- what a role takes from an operand that is there, over any registers and view
pub record TakesFrom (t : Result Taken Fault) (place : ℕ) (k : Role) (l : Location) : Type 0 where
  pub same : (v : View) (L : ℕ) (r : Registers) → taken_as t ≡ taken_from v place L k (at l r)

-- from register x, in which the value is n
pub record TakesRegister (t : Result Taken Fault) (place : ℕ) (k : Role) (x n : ℕ) : Type 0 where
  pub same : (v : View) (L : ℕ) (r : Registers) → n ≡ reg r x % span L
      → taken_as t ≡ taken_from v place L k (at (register x) r)

-- where a result for an operand in memory goes
abbrev pub written_by : Role → VirtualAddress → Target
written_by Value a = target.Nowhere
written_by Address a = target.Nowhere
written_by Destination a = target.Memory a
written_by Update a = target.Memory a

-- from memory
pub record TakesMemory (t : Result Taken Fault) (v : View) (L : ℕ) (k : Role) (a : VirtualAddress) : Type 0 where
  pub same : (place : ℕ) (r : Registers) → taken_as t ≡ taken_from v place L k (at (memory a) r)

abbrev pub operands_as : Result Operands Fault → Registers → OrAlarm AllGiven
operands_as o r = answered (λ g. record { first = g.first; second = g.second; target = g.target; registers = r }) o

abbrev pub SmallOperands : Result Operands Fault → Type 0
SmallOperands (Ok g) = SmallTarget g.target
SmallOperands (Err e) = Unit {0}

-- Where an operand is, in the terms of `machine`.
use Rattle.std.specs.Prelude.{ℕ, ◌+◌, ◌<◌, ◌≡◌, Result, Ok, Err}
use Rattle.machine.specs.declared.Fault.{Fault}
use Rattle.machine.specs.declared.Target.{Target}
use Rattle.machine.specs.declared.Target.TheVariants as target
use Rattle.machine.specs.State.{Registers}
use Rattle.machine.specs.Alarms.{OrAlarm, answered, ◌>>=◌}
use Rattle.machine.specs.Operands as operands
use Rattle.machine.specs.Operands.{virtual, immediate, register, memory, Operand, at}
use Rattle.forms.specs.declared.Location.{Location}
use Rattle.forms.specs.declared.Location.TheVariants as location

abbrev pub located_at : Location → operands.Location
located_at (location.Immediate z) = immediate z
located_at (location.Register x) = register x
located_at (location.Memory a) = memory a

-- an operand, over the registers that it leaves
abbrev pub location_as : Result Location Fault → Registers → OrAlarm Operand
location_as p r = answered (λ l. record { location = located_at l; registers = r }) p

-- an operand that is a register is one of the sixteen
abbrev pub SmallPlace : Location → Type 0
SmallPlace (location.Immediate z) = Unit {0}
SmallPlace (location.Register x) = x < 16
SmallPlace (location.Memory a) = Unit {0}

abbrev pub SmallLocation : Result Location Fault → Type 0
SmallLocation (Ok l) = SmallPlace l
SmallLocation (Err e) = Unit {0}

-- a target that is a register is one of the sixteen
abbrev pub SmallTarget : Target → Type 0
SmallTarget target.Nowhere = Unit {0}
SmallTarget (target.Register x) = x < 16
SmallTarget (target.Memory a) = Unit {0}

-- a place behind the word w that was read, over any registers
pub record Behind (p : Result Location Fault) (w : OrAlarm ℕ) (more : ℕ) : Type 0 where
  pub same : (r : Registers) → location_as p r ≡ w >>= (λ a. at (memory (virtual (a + more))) r)
  pub small : SmallLocation p

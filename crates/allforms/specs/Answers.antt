-- What a word in memory leads to, and what is left where operands are unsure, in the terms of
-- `machine` and of `sure`.
use Rattle.std.specs.Prelude.{ℕ, ◌+◌, ◌≡◌, Option, Some, None}
use Rattle.machine.specs.declared.VirtualAddress.{VirtualAddress}
use Rattle.machine.specs.State.{Registers}
use Rattle.machine.specs.Alarms.{OrAlarm, ◌>>=◌}
use Rattle.machine.specs.Operands.{virtual, memory, at}
use Rattle.sure.specs.declared.Spot.{Spot}
use Rattle.sure.specs.declared.Spot.TheVariants as spot
use Rattle.sure.specs.declared.Operands.{Operands}

-- the word w that was read leads to this address, `more` bytes further on, over any registers
pub record Points (w : OrAlarm ℕ) (more : ℕ) (a : VirtualAddress) : Type 0 where
  pub same : (r : Registers) → w >>= (λ n. at (memory (virtual (n + more))) r) ≡ at (memory a) r

abbrev pub PointedBy : OrAlarm ℕ → ℕ → Option Spot → Type 0
PointedBy w more (Some (spot.Number z)) = ⊥
PointedBy w more (Some (spot.Register x n)) = ⊥
PointedBy w more (Some (spot.Memory a)) = Points w more a
PointedBy w more None = Unit {0}

-- where operands are unsure, the registers are as they were
abbrev pub KeptUnsure : Registers → Registers → Option Operands → Type 0
KeptUnsure r q (Some o) = Unit {0}
KeptUnsure r q None = q ≡ r

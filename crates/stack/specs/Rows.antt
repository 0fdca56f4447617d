-- What PUSHR stores, in the terms of `machine`.
use Rattle.std.specs.Prelude.{ℕ, List, [], ◌∷◌, ◌++◌}
use Rattle.machine.specs.Words.{lowered}
use Rattle.machine.specs.State.{Registers, reg, registers_from}

-- the words of PUSHR, upward: R0 to R13, then SP lowered once
abbrev pub row_of : Registers → List ℕ
row_of r = registers_from 14 0 r ++ lowered (reg r 14) 4 ∷ []

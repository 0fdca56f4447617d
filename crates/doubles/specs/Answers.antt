-- A value of eight bytes, in the terms of `machine`.
use Rattle.std.specs.Prelude.{ℕ, Result}
use Rattle.machine.specs.declared.Fault.{Fault}
use Rattle.machine.specs.Alarms.{OrAlarm, answered}

abbrev pub bits_as : Result ℕ Fault → OrAlarm ℕ
bits_as r = answered (λ n. n) r

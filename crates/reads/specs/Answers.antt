-- What a read says, in the terms of `machine`.
use Rattle.std.specs.Prelude.{ℕ, ◌<◌, Result, Ok, Err}
use Rattle.machine.specs.declared.Fault.{Fault}
use Rattle.machine.specs.Words.{span}
use Rattle.machine.specs.Alarms.{OrAlarm, answered}

abbrev pub got_as : Result ℕ Fault → OrAlarm ℕ
got_as r = answered (λ n. n) r

-- a value that was read from L bytes is below 256 ^ L
abbrev pub SpanOrAlarm : ℕ → Result ℕ Fault → Type 0
SpanOrAlarm L (Ok n) = n < span L
SpanOrAlarm L (Err e) = Unit {0}

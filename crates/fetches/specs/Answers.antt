-- What a fetch says, in the terms of `machine`.
use Rattle.std.specs.Prelude.{◌≡◌, ℕ, ◌+◌, ◌/◌, ◌%◌, ◌<◌, Option, Some, None, Result, Ok, Err}
use Rattle.machine.specs.declared.Fault.{Fault}
use Rattle.machine.specs.declared.RealAddress.{RealAddress}
use Rattle.machine.specs.declared.VirtualAddress.{VirtualAddress}
use Rattle.machine.specs.declared.Access.TheVariants.{Fetch}
use Rattle.machine.specs.Words.{Memory, byte_at, word_at}
use Rattle.machine.specs.Alarms.{OrAlarm, got, answered}
use Rattle.machine.specs.Map.{found_at, View}
use Rattle.machine.specs.Operands.{fields_at}
use Rattle.machine.specs.Operands as operands
use Rattle.fetches.specs.declared.fields.Fields.{Fields}
use Rattle.fetches.specs.declared.Start.{Start}

-- a command byte, wherever it lies
abbrev pub command_byte_as : Result (ℕ × RealAddress) Fault → OrAlarm ℕ
command_byte_as r = answered (λ c. c.0) r

abbrev pub SmallByte : Result (ℕ × RealAddress) Fault → Type 0
SmallByte (Ok c) = c.0 < 256
SmallByte (Err e) = Unit {0}

-- the fetch at the command's address finds its place in memory m
pub record FetchedFrom (v : View) (m : Memory) (c : Start) : Type 0 where
  pub hit : v c.address Fetch ≡ got (found_at m c.place)

-- what was fetched at x starts a command
abbrev pub StartOf : View → Memory → VirtualAddress → Result (ℕ × RealAddress) Fault → Type 0
StartOf v m x (Ok c) = FetchedFrom v m (record { address = x; place = c.1 })
StartOf v m x (Err e) = Unit {0}

-- the fields of an operand
abbrev pub named : Fields → operands.Fields
named k = record { form = k.form; x = k.x; y = k.y; z = k.z }

abbrev pub operand_bytes_as : Result Fields Fault → OrAlarm operands.Fields
operand_bytes_as r = answered named r

-- the six bytes from place a of memory on
abbrev pub operand_bytes_at : Memory → ℕ → operands.Fields
operand_bytes_at m a = record {
  form = byte_at m a;
  x = byte_at m (a + 1) / 16;
  y = byte_at m (a + 1) % 16;
  z = word_at m (a + 2);
}

-- the six bytes from address x on, where they are told
abbrev pub NearOf : View → VirtualAddress → Option Fields → Type 0
NearOf v x (Some k) = got (named k) ≡ fields_at v x.0
NearOf v x None = Unit {0}

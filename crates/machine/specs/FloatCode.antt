-- Document 02, F-6: the table of floating command bytes, with each command's kind and its operands'
-- roles, and what these operands give. An operand's six bytes, its forms and their rules are those
-- of Operands.antt, with L = 4 for F and 8 for D.
use Rattle.std.specs.Prelude.{ℕ, suc, ◌+◌, ◌-◌, ◌*◌, ◌/◌, ◌%◌, Bool, ◌&&◌, ◌||◌, List, [], ◌∷◌, ltb, leb, eqb, set}
use Rattle.std.proofs.Math.Option.{Option, none, some}
use Rattle.machine.specs.declared.Access.TheVariants.{Read}
use Rattle.machine.specs.declared.Arithmetic.{Arithmetic}
use Rattle.machine.specs.declared.Arithmetic.TheVariants.{Add, Sub, Mult, Div}
use Rattle.machine.specs.declared.Alarm.TheVariants as alarms
use Rattle.machine.specs.declared.Kind.{Kind}
use Rattle.machine.specs.declared.Kind.TheVariants.{F, D}
use Rattle.machine.specs.declared.Role.{Role}
use Rattle.machine.specs.declared.Role.TheVariants.{Value, Destination, Update}
use Rattle.machine.specs.declared.Target.TheVariants.{Nowhere}
use Rattle.machine.specs.Words.{pick, kind_at, kind_length, span}
use Rattle.machine.specs.State.{Registers, reg}
use Rattle.machine.specs.Alarms.{OrAlarm, got, alarm, ◌>>=◌}
use Rattle.machine.specs.Map.{View, read_bytes}
use Rattle.machine.specs.Code.{read_by, written_to}
use Rattle.machine.specs.Operands.{Fields, fields_at, past, formed, Location, immediate, register, memory, Operand}
use Rattle.machine.specs.Operands.{target_in, Taken, taken, Operands, with_taken}

-- ---- The table

-- ADD, SUB, MULT and DIV give the result of an operation
pub data FloatCommand : Type 0 where
  gives : Arithmetic → FloatCommand
  MOVE CMP : FloatCommand

-- the operands' roles, as of the integer commands: "/" gives the three-operand byte
abbrev pub two : List Role
two = Value ∷ Update ∷ []

abbrev pub three : List Role
three = Value ∷ Value ∷ Destination ∷ []

abbrev pub transport : List Role
transport = Value ∷ Destination ∷ []

abbrev pub values : List Role
values = Value ∷ Value ∷ []

-- two bytes from a first one on, for F and D
pub data FloatRow : Type 0 where
  kinds : ℕ → FloatCommand → List Role → FloatRow

-- "80h+j/84h+j ADD, 88h+j/8Ch+j SUB, 90h+j/94h+j MULT, 98h+j/9Ch+j DIV, A0h+j MOVE, A4h+j CMP"
unfoldable pub float_table : List FloatRow
float_table =
    kinds 0x80 (gives Add) two
    ∷ kinds 0x84 (gives Add) three
    ∷ kinds 0x88 (gives Sub) two
    ∷ kinds 0x8C (gives Sub) three
    ∷ kinds 0x90 (gives Mult) two
    ∷ kinds 0x94 (gives Mult) three
    ∷ kinds 0x98 (gives Div) two
    ∷ kinds 0x9C (gives Div) three
    ∷ kinds 0xA0 MOVE transport
    ∷ kinds 0xA4 CMP values
    ∷ []

-- the kind stands once for a command: "it never changes kind inside a command"
pub record KnownFloat : Type 0 where
  pub command : FloatCommand
  pub kind : Kind
  pub roles : List Role

-- "All other bytes are unknown": 82h, 83h and so on
unfoldable pub known_float_in : List FloatRow → ℕ → Option KnownFloat
known_float_in [] b = none
known_float_in (kinds n c rs ∷ rows) b =
    pick (leb n b && ltb b (n + 2)) (some (record { command = c; kind = kind_at (b - n); roles = rs }))
    (known_float_in rows b)

unfoldable pub known_float : ℕ → Option KnownFloat
known_float b = known_float_in float_table b

-- ---- One operand

-- "Alarm 14 also covers form 1 for D and, in form 2, register 15 for F and 14 or 15 for D."
unfoldable pub excluded : Kind → Fields → Bool
excluded F q = eqb q.form 2 && eqb q.x 15
excluded D q = eqb q.form 1 || eqb q.form 2 && leb 14 q.x

-- "fetch, form, address" of the operand at R15: "Inside an operand R15 is the address just after
-- its six bytes"
unfoldable pub float_operand_at : View → ℕ → Kind → Registers → OrAlarm Operand
float_operand_at v place k r = do
  q ← fields_at v (reg r 15)
  pick (excluded k q) (alarm alarms.Operand place) (formed v place (kind_length k) (past 6 r) q)

-- "D in register x has its high word in x and its low word in x + 1"; 000, 1.2: "R_(i+1)mod16". x
-- is at most 13 (`excluded`), so nothing wraps
abbrev pub next_register : ℕ → ℕ
next_register x = (x + 1) % 16

-- the bits in register x, of a D also in the next; an F fills its register
unfoldable pub bits_in_register : Kind → Registers → ℕ → ℕ
bits_in_register F r x = reg r x
bits_in_register D r x = reg r x * span 4 + reg r (next_register x)

-- the registers with these bits written there
unfoldable pub bits_to_register : Kind → Registers → ℕ → ℕ → Registers
bits_to_register F r x n = set r x (n % span 4)
bits_to_register D r x n = set (set r x (n / span 4 % span 4)) (next_register x) (n % span 4)

-- the bits of an operand's value
unfoldable pub float_in : View → Kind → Registers → Location → OrAlarm ℕ
float_in v k r (immediate z) = got z
float_in v k r (register x) = got (bits_in_register k r x)
float_in v k r (memory a) = read_bytes v Read (kind_length k) a

-- what a role takes from it: where its result goes ("Form 1 is no destination"), then its bits
-- ("reading where its value is used"), 0 where it is only written
unfoldable pub float_taken_by : View → ℕ → Kind → Operand → Role → OrAlarm Taken
float_taken_by v place k p role = do
  t ← pick (written_to role) (target_in place p.location) (got Nowhere)
  n ← pick (read_by role) (float_in v k p.registers p.location) (got 0)
  taken n t

-- ---- "each operand left to right"

-- from the operand at that place on, after those that gave o
unfoldable pub float_operands_from : View → ℕ → Kind → List Role → Operands → OrAlarm Operands
float_operands_from v place k [] o = got o
float_operands_from v place k (role ∷ roles) o = do
  p ← float_operand_at v place k o.registers
  t ← float_taken_by v place k p role
  float_operands_from v (suc place) k roles (with_taken place o t p.registers)

abbrev pub float_operands_of : View → Kind → List Role → Registers → OrAlarm Operands
float_operands_of v k roles r =
    float_operands_from v 1 k roles (record { first = 0; second = 0; target = Nowhere; registers = r })

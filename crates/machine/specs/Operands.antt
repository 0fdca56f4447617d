-- Document 01, "Code": the nine forms of an operand, their rules, and what an operand gives a
-- command.
use Rattle.std.specs.Prelude.{ℕ, suc, ◌+◌, ◌*◌, ◌/◌, ◌%◌, Bool, true, false, not, ◌&&◌, List, [], ◌∷◌, ltb, leb, eqb, set}
use Rattle.machine.specs.declared.VirtualAddress.{VirtualAddress}
use Rattle.machine.specs.declared.Access.TheVariants.{Fetch, Read}
use Rattle.machine.specs.declared.Alarm.TheVariants as alarms
use Rattle.machine.specs.declared.Role.{Role}
use Rattle.machine.specs.declared.Role.TheVariants.{Value, Address, Destination, Update}
use Rattle.machine.specs.declared.Target.{Target}
use Rattle.machine.specs.declared.Target.TheVariants.{Nowhere, Register, Memory}
use Rattle.machine.specs.Words.{pick, length_of, span, wrap, raised, lowered}
use Rattle.machine.specs.State.{Registers, reg}
use Rattle.machine.specs.Alarms.{OrAlarm, got, alarm, ◌>>=◌}
use Rattle.machine.specs.Map.{View, read_bytes}
use Rattle.machine.specs.Code.{Rule}

-- ---- "each operand has six: form, register pair (x in the high four bits, y in the low), and a word z"

pub record Fields : Type 0 where
  pub form : ℕ
  pub x : ℕ
  pub y : ℕ
  pub z : ℕ

-- a number as an address: it wraps
abbrev pub virtual : ℕ → VirtualAddress
virtual a = record { 0 = wrap a }

-- the six bytes from address a on, fetched upward
unfoldable pub fields_at : View → ℕ → OrAlarm Fields
fields_at v a = do
  form ← read_bytes v Fetch 1 (virtual a)
  pair ← read_bytes v Fetch 1 (virtual (a + 1))
  z ← read_bytes v Fetch 4 (virtual (a + 2))
  got (record { form = form; x = pair / 16; y = pair % 16; z = z })

-- ---- Form rules

-- "A field that a form doesn't use is 0. A form byte above 8 breaks the form rules." Form 1: "the
-- value in the last L bytes of z, the others being 0". "Forms 7 and 8 exclude x = 15."
unfoldable pub keeps_rules : ℕ → Fields → Bool
keeps_rules L k =
    pick (eqb k.form 0) (eqb k.x 0 && eqb k.y 0)
    (pick (eqb k.form 1) (eqb k.x 0 && eqb k.y 0 && ltb k.z (span L))
    (pick (eqb k.form 2) (eqb k.y 0 && eqb k.z 0)
    (pick (eqb k.form 3) (eqb k.y 0)
    (pick (eqb k.form 4) true
    (pick (eqb k.form 5) (eqb k.y 0)
    (pick (eqb k.form 6) true
    (pick (leb k.form 8) (not (eqb k.x 15) && eqb k.y 0 && eqb k.z 0)
    false)))))))

-- ---- Forms

-- where an operand is
pub data Location : Type 0 where
  immediate : ℕ → Location
  register : ℕ → Location
  memory : VirtualAddress → Location

-- and the registers after its register step
pub record Operand : Type 0 where
  pub location : Location
  pub registers : Registers

abbrev pub at : Location → Registers → OrAlarm Operand
at l r = got (record { location = l; registers = r })

-- the word at an address
abbrev pub word_behind : View → ℕ → OrAlarm ℕ
word_behind v a = read_bytes v Read 4 (virtual a)

-- by form, for an operand of L bytes: 0 z; 1 the value z; 2 register x; 3 z + Rx; 4 z + Rx + Ry ×
-- L; 5 the word at z + Rx; 6 that word + Ry × L; 7 Rx lowered by L, then address Rx; 8 address Rx,
-- then Rx raised by L
unfoldable pub by_form : View → ℕ → Registers → Fields → OrAlarm Operand
by_form v L r k =
    let rx = reg r k.x in
    let ry = reg r k.y in
    pick (eqb k.form 0) (at (memory (virtual k.z)) r)
    (pick (eqb k.form 1) (at (immediate k.z) r)
    (pick (eqb k.form 2) (at (register k.x) r)
    (pick (eqb k.form 3) (at (memory (virtual (k.z + rx))) r)
    (pick (eqb k.form 4) (at (memory (virtual (k.z + rx + ry * L))) r)
    (pick (eqb k.form 5) (word_behind v (k.z + rx) >>= (λ w. at (memory (virtual w)) r))
    (pick (eqb k.form 6) (word_behind v (k.z + rx) >>= (λ w. at (memory (virtual (w + ry * L))) r))
    (pick (eqb k.form 7) (at (memory (virtual (lowered rx L))) (set r k.x (lowered rx L)))
    -- 8
    (at (memory (virtual rx)) (set r k.x (raised rx L))))))))))

-- R15 moved past n more bytes of the command
abbrev pub past : ℕ → Registers → Registers
past n r = set r 15 (raised (reg r 15) n)

-- form and address of an operand, from its fields; 14's argument is "the operand's place from 1"
abbrev pub formed : View → ℕ → ℕ → Registers → Fields → OrAlarm Operand
formed v place L r k = pick (keeps_rules L k) (by_form v L r k) (alarm alarms.Operand place)

-- "fetch, form, address" of the operand at R15: "Inside an operand R15 is the address just after
-- its six bytes"
unfoldable pub operand_at : View → ℕ → ℕ → Registers → OrAlarm Operand
operand_at v place L r = do
  k ← fields_at v (reg r 15)
  formed v place L (past 6 r) k

-- ---- What a role takes from an operand

-- "reading where its value is used"; "B and H in a register are its low end"
unfoldable pub value_in : View → ℕ → Registers → Location → OrAlarm ℕ
value_in v L r (immediate z) = got z
value_in v L r (register x) = got (reg r x % span L)
value_in v L r (memory a) = read_bytes v Read L a

-- "forms 1 and 2 have no address"
unfoldable pub address_in : ℕ → Location → OrAlarm ℕ
address_in place (immediate z) = alarm alarms.Operand place
address_in place (register x) = alarm alarms.Operand place
address_in place (memory a) = got a.0

-- where a result goes: "Form 1 is no destination"
unfoldable pub target_in : ℕ → Location → OrAlarm Target
target_in place (immediate z) = alarm alarms.Operand place
target_in place (register x) = got (Register x)
target_in place (memory a) = got (Memory a)

-- a value or an address for the operation, 0 where the operand is only written, and where its
-- result goes
pub record Taken : Type 0 where
  pub number : ℕ
  pub target : Target

abbrev pub taken : ℕ → Target → OrAlarm Taken
taken n t = got (record { number = n; target = t })

unfoldable pub taken_by : View → ℕ → ℕ → Operand → Role → OrAlarm Taken
taken_by v place L p Value = do
  n ← value_in v L p.registers p.location
  taken n Nowhere
taken_by v place L p Address = do
  a ← address_in place p.location
  taken a Nowhere
taken_by v place L p Destination = do
  t ← target_in place p.location
  taken 0 t
taken_by v place L p Update = do
  t ← target_in place p.location
  n ← value_in v L p.registers p.location
  taken n t

-- ---- "each operand left to right"

-- what the operands give: the first's and the second's number, where the last one's result goes,
-- and the registers after them
pub record Operands : Type 0 where
  pub first : ℕ
  pub second : ℕ
  pub target : Target
  pub registers : Registers

-- the operand at that place gave t, after those that gave o
unfoldable pub with_taken : ℕ → Operands → Taken → Registers → Operands
with_taken place o t r = record {
  first = pick (eqb place 1) t.number o.first;
  second = pick (eqb place 2) t.number o.second;
  target = t.target;
  registers = r;
}

-- from the operand at that place on, after those that gave o
unfoldable pub operands_from : View → ℕ → List Rule → Operands → OrAlarm Operands
operands_from v place [] o = got o
operands_from v place (k ∷ ks) o = do
  p ← operand_at v place (length_of k.size) o.registers
  t ← taken_by v place (length_of k.size) p k.role
  operands_from v (suc place) ks (with_taken place o t p.registers)

abbrev pub operands_of : View → List Rule → Registers → OrAlarm Operands
operands_of v ks r = operands_from v 1 ks (record { first = 0; second = 0; target = Nowhere; registers = r })

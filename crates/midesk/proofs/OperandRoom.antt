-- What operands give has room in its bytes: values and addresses below 2^32, and so the registers
-- that they leave.
use Prim.Native.Nat.{ℕ, suc, ◌+◌}
use mathlib.Core.List.{List, [], ◌∷◌}
use native.Mathlib.Omega.{arith}
use lib.Dec.{eqb}
use lib.ListN.{set}
use Rattle.machine.specs.declared.Access.TheVariants.{Fetch, Read}
use Rattle.machine.specs.declared.Kind.{Kind}
use Rattle.machine.specs.declared.Size.{Size}
use Rattle.machine.specs.declared.Size.TheVariants.{B, H, W}
use Rattle.machine.specs.declared.Role.{Role}
use Rattle.machine.specs.declared.Role.TheVariants as role
use Rattle.machine.specs.Words.{length_of, kind_length, wrap, raised}
use Rattle.machine.specs.State.{Registers, reg}
use Rattle.machine.specs.Alarms.{OrAlarm}
use Rattle.machine.specs.Map.{View, read_bytes}
use Rattle.machine.specs.Code.{Rule}
use Rattle.machine.specs.Operands.{Fields, fields_at, virtual, keeps_rules, Location, immediate, register, memory}
use Rattle.machine.specs.Operands.{Operand, word_behind, by_form, past, operand_at, value_in, address_in, target_in, Taken}
use Rattle.machine.specs.Operands.{taken_by, Operands, with_taken, operands_from}
use Rattle.machine.specs.FloatCode.{excluded, float_operand_at, float_taken_by, float_operands_from}
use Rattle.midesk.proofs.Stops.{picked}
use Rattle.midesk.proofs.Room.{Word, Sixteen, set_held, Got, bound, after, Sees, read_held}

-- ---- What operands give

-- a value or an address that an operand names
abbrev Within : Location → Type 0
Within (immediate z) = Word z
Within (register x) = Unit {0}
Within (memory a) = Word a.0

abbrev HeldFields : Fields → Type 0
HeldFields k = Word k.z

abbrev HeldTaken : Taken → Type 0
HeldTaken t = Word t.number

record HeldOperand (p : Operand) : Type 0 where
  location : Within p.location
  registers : Sixteen p.registers

pub record HeldOperands (o : Operands) : Type 0 where
  pub first : Word o.first
  pub second : Word o.second
  pub registers : Sixteen o.registers

address_held : (place : ℕ) (l : Location) → Within l → Got Word (address_in place l)
unfolding address_in
address_held place (immediate z) h = tt
address_held place (register x) h = tt
address_held place (memory a) h = h

module _ (v : View) (sees : Sees v) where
  fields_held : (a : ℕ) → Got HeldFields (fields_at v a)
  unfolding fields_at
  fields_held a =
      after HeldFields (read_bytes v Fetch 1 (virtual a)) _ λ form.
      after HeldFields (read_bytes v Fetch 1 (virtual (a + 1))) _ λ pair.
      bound Word HeldFields (read_bytes v Fetch 4 (virtual (a + 2))) _
      (read_held v sees Fetch W (virtual (a + 2))) λ z h. h

  form_held : (L : ℕ) (r : Registers) (k : Fields) → Sixteen r → Word k.z → Got HeldOperand (by_form v L r k)
  unfolding by_form
  form_held L r k h z =
      let behind : OrAlarm ℕ = word_behind v (k.z + reg r k.x) in
      let moved : (n : ℕ) → Sixteen (set r k.x (wrap n)) = λ n. set_held k.x (wrap n) h (omega arith) in
      picked (Got HeldOperand) (eqb k.form 0) _ _ (record { location = omega arith; registers = h })
      (picked (Got HeldOperand) (eqb k.form 1) _ _ (record { location = z; registers = h })
      (picked (Got HeldOperand) (eqb k.form 2) _ _ (record { location = tt; registers = h })
      (picked (Got HeldOperand) (eqb k.form 3) _ _ (record { location = omega arith; registers = h })
      (picked (Got HeldOperand) (eqb k.form 4) _ _ (record { location = omega arith; registers = h })
      (picked (Got HeldOperand) (eqb k.form 5) _ _
      (after HeldOperand behind _ (λ w. record { location = omega arith; registers = h }))
      (picked (Got HeldOperand) (eqb k.form 6) _ _
      (after HeldOperand behind _ (λ w. record { location = omega arith; registers = h }))
      (picked (Got HeldOperand) (eqb k.form 7) _ _ (record { location = omega arith; registers = moved _ })
      (record { location = omega arith; registers = moved _ }))))))))

  operand_held : (place L : ℕ) (r : Registers) → Sixteen r → Got HeldOperand (operand_at v place L r)
  unfolding operand_at
  operand_held place L r h =
      bound HeldFields HeldOperand (fields_at v (reg r 15)) _ (fields_held (reg r 15)) λ k z.
      picked (Got HeldOperand) (keeps_rules L k) _ _
      (form_held L (past 6 r) k (set_held 15 (raised (reg r 15) 6) h (omega arith)) z) tt

  value_held : (s : Size) (r : Registers) (l : Location) → Within l → Got Word (value_in v (length_of s) r l)
  unfolding value_in
  value_held s r (immediate z) h = h
  value_held B r (register x) h = omega arith
  value_held H r (register x) h = omega arith
  value_held W r (register x) h = omega arith
  value_held s r (memory a) h = read_held v sees Read s a

  taken_held : (place : ℕ) (s : Size) (p : Operand) (k : Role) → HeldOperand p
      → Got HeldTaken (taken_by v place (length_of s) p k)
  unfolding taken_by
  taken_held place s p role.Value h =
      let l = p.location in
      bound Word HeldTaken (value_in v (length_of s) p.registers l) _
      (value_held s p.registers l h.location) λ n g. g
  taken_held place s p role.Address h =
      bound Word HeldTaken (address_in place p.location) _
      (address_held place p.location h.location) λ n g. g
  taken_held place s p role.Destination h =
      after HeldTaken (target_in place p.location) _ λ t. omega arith
  taken_held place s p role.Update h =
      let l = p.location in
      after HeldTaken (target_in place l) _ λ t.
      bound Word HeldTaken (value_in v (length_of s) p.registers l) _
      (value_held s p.registers l h.location) λ n g. g

  pub operands_held : (place : ℕ) (ks : List Rule) (o : Operands) → HeldOperands o
      → Got HeldOperands (operands_from v place ks o)
  unfolding operands_from with_taken
  operands_held place [] o h = h
  operands_held place (k ∷ ks) o h =
      let L = length_of k.size in
      bound HeldOperand HeldOperands (operand_at v place L o.registers) _
      (operand_held place L o.registers h.registers) λ p hp.
      bound HeldTaken HeldOperands (taken_by v place L p k.role) _
      (taken_held place k.size p k.role hp) λ t ht.
      operands_held (suc place) ks (with_taken place o t p.registers) (record {
        first = picked Word (eqb place 1) t.number o.first ht h.first;
        second = picked Word (eqb place 2) t.number o.second ht h.second;
        registers = hp.registers;
      })

  -- ---- Floating commands: their operands leave such registers

  float_operand_held : (place : ℕ) (k : Kind) (r : Registers) → Sixteen r
      → Got HeldOperand (float_operand_at v place k r)
  unfolding float_operand_at
  float_operand_held place k r h =
      bound HeldFields HeldOperand (fields_at v (reg r 15)) _ (fields_held (reg r 15)) λ q z.
      picked (Got HeldOperand) (excluded k q) _ _ tt
      (picked (Got HeldOperand) (keeps_rules (kind_length k) q) _ _
      (form_held (kind_length k) (past 6 r) q (set_held 15 (raised (reg r 15) 6) h (omega arith)) z) tt)

  pub float_operands_held : (place : ℕ) (k : Kind) (roles : List Role) (o : Operands) → Sixteen o.registers
      → Got (λ o. Sixteen o.registers) (float_operands_from v place k roles o)
  unfolding float_operands_from with_taken
  float_operands_held place k [] o h = h
  float_operands_held place k (role ∷ roles) o h =
      bound HeldOperand (λ o. Sixteen o.registers) (float_operand_at v place k o.registers) _
      (float_operand_held place k o.registers h) λ p hp.
      after (λ o. Sixteen o.registers) (float_taken_by v place k p role) _ λ t.
      float_operands_held (suc place) k roles (with_taken place o t p.registers) hp.registers

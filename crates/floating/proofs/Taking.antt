-- What a role takes from an operand, by what the role does and by where the operand is.
use Prim.Native.Nat.{ℕ}
use mathlib.Core.Path.{◌≡◌, refl, sym}
use mathlib.Core.Bool.{true, false, false≢true}
use Rattle.machine.specs.declared.Alarm.{Alarm}
use Rattle.machine.specs.declared.Alarm.TheVariants as alarms
use Rattle.machine.specs.declared.VirtualAddress.{VirtualAddress}
use Rattle.machine.specs.declared.Access.TheVariants.{Read}
use Rattle.machine.specs.declared.Kind.{Kind}
use Rattle.machine.specs.declared.Role.{Role}
use Rattle.machine.specs.declared.Role.TheVariants.{Value, Address, Destination, Update}
use Rattle.machine.specs.declared.Target.TheVariants.{Nowhere, Register, Memory}
use Rattle.machine.specs.Words.{kind_length, pick}
use Rattle.machine.specs.State.{Registers}
use Rattle.machine.specs.Alarms.{got, alarm}
use Rattle.machine.specs.Map.{View, read_bytes}
use Rattle.machine.specs.Code.{read_by, written_to}
use Rattle.machine.specs.Operands.{immediate, register, memory, at, target_in, taken}
use Rattle.machine.specs.FloatCode.{bits_in_register, float_in, float_taken_by}
use Rattle.floating.specs.Answers.{float_taken_from}

module _ (v : View) (place : ℕ) (k : Kind) (r : Registers) where
  pub immediate_written : (z : ℕ) (role : Role) → written_to role ≡ true
      → alarm alarms.Operand place ≡ float_taken_from v place k role (at (immediate z) r)
  unfolding float_taken_by target_in
  immediate_written z role h = rw h

  pub immediate_taken : (z : ℕ) (role : Role) → written_to role ≡ false
      → taken (pick (read_by role) z 0) Nowhere ≡ float_taken_from v place k role (at (immediate z) r)
  unfolding float_taken_by float_in
  immediate_taken z Value h = refl
  immediate_taken z Address h = refl
  immediate_taken z Destination h = absurd (false≢true (sym h))
  immediate_taken z Update h = absurd (false≢true (sym h))

  pub register_taken : (x : ℕ) (role : Role)
      → taken (pick (read_by role) (bits_in_register k r x) 0) (pick (written_to role) (Register x) Nowhere)
      ≡ float_taken_from v place k role (at (register x) r)
  unfolding float_taken_by target_in float_in
  register_taken x Value = refl
  register_taken x Address = refl
  register_taken x Destination = refl
  register_taken x Update = refl

  pub memory_unread : (a : VirtualAddress) (role : Role) → read_by role ≡ false
      → taken 0 (pick (written_to role) (Memory a) Nowhere) ≡ float_taken_from v place k role (at (memory a) r)
  unfolding float_taken_by target_in
  memory_unread a Value h = absurd (false≢true (sym h))
  memory_unread a Address h = refl
  memory_unread a Destination h = refl
  memory_unread a Update h = absurd (false≢true (sym h))

  pub memory_value : (a : VirtualAddress) (role : Role) → read_by role ≡ true → (n : ℕ)
      → got n ≡ read_bytes v Read (kind_length k) a
      → taken n (pick (written_to role) (Memory a) Nowhere) ≡ float_taken_from v place k role (at (memory a) r)
  unfolding float_taken_by target_in float_in
  memory_value a Value h n e = rw (← e)
  memory_value a Address h n e = absurd (false≢true h)
  memory_value a Destination h n e = absurd (false≢true h)
  memory_value a Update h n e = rw (← e)

  pub memory_alarm : (a : VirtualAddress) (role : Role) → read_by role ≡ true → (n : Alarm) (x : ℕ)
      → alarm n x ≡ read_bytes v Read (kind_length k) a → alarm n x ≡ float_taken_from v place k role (at (memory a) r)
  unfolding float_taken_by target_in float_in
  memory_alarm a Value h n x e = rw (← e)
  memory_alarm a Address h n x e = absurd (false≢true h)
  memory_alarm a Destination h n x e = absurd (false≢true h)
  memory_alarm a Update h n x e = rw (← e)

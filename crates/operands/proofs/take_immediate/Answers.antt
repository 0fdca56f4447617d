-- `take_immediate` is right: a value is taken, and each other role is one case of the definition.
use Prim.Native.Nat.{ℕ}
use mathlib.Core.Path.{◌≡◌, refl}
use Rattle.std.specs.Prelude.{Err}
use Rattle.machine.specs.declared.Alarm.TheVariants as alarms
use Rattle.machine.specs.declared.Role.{Role}
use Rattle.machine.specs.declared.Role.TheVariants.{Value, Address, Destination, Update}
use Rattle.machine.specs.Operands.{immediate, value_in, address_in, target_in, taken_by}
use Rattle.operands.specs.Answers.{TakesFrom}
use Rattle.operands.proofs.take_immediate.Goals as goal

none : (place z : ℕ) (k : Role) → (k ≡ Value → ⊥)
    → TakesFrom (Err (record { alarm = alarms.Operand; argument = place })) place k (immediate z)
unfolding taken_by address_in target_in
none place z Value h = absurd (h refl)
none place z Address h = record { same = λ v L r. refl }
none place z Destination h = record { same = λ v L r. refl }
none place z Update h = record { same = λ v L r. refl }

pub returns-in-Value-clause-value : goal.returns-in-Value-clause-value
unfolding taken_by value_in
returns-in-Value-clause-value c = record { same = λ v L r. simp c.in-Value.is }

pub returns-in_default : goal.returns-in_default
returns-in_default c = record {
  value = rw c.misplaced.ensures (none _ _ _ c.in_default.not-Value);
  small = tt;
}

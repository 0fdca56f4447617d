-- What a role takes from an operand in memory: the value that it reads, the address, or nothing.
use Prim.Native.Nat.{ℕ}
use mathlib.Core.Path.{◌≡◌, refl, sym}
use mathlib.Core.Bool.{true, false, false≢true}
use Rattle.machine.specs.declared.VirtualAddress.{VirtualAddress}
use Rattle.machine.specs.declared.Access.TheVariants.{Read}
use Rattle.machine.specs.declared.Role.{Role}
use Rattle.machine.specs.declared.Role.TheVariants.{Value, Address, Destination, Update}
use Rattle.machine.specs.State.{Registers}
use Rattle.machine.specs.Alarms.{OrAlarm, ◌>>=◌}
use Rattle.machine.specs.Map.{View, read_bytes}
use Rattle.machine.specs.Operands.{memory, at, taken, value_in, address_in, target_in, taken_by}
use Rattle.machine.specs.Code.{read_by}
use Rattle.rules.specs.Rules.{addressed_by}
use Rattle.operands.specs.Answers.{written_by, taken_from}

module _ (v : View) (place L : ℕ) (a : VirtualAddress) (r : Registers) where
  pub value_taken : (q : OrAlarm ℕ) (k : Role) → q ≡ read_bytes v Read L a → read_by k ≡ true
      → (q >>= (λ n. taken n (written_by k a))) ≡ taken_from v place L k (at (memory a) r)
  unfolding taken_by value_in target_in
  value_taken q Value e h = rw e
  value_taken q Address e h = absurd (false≢true h)
  value_taken q Destination e h = absurd (false≢true h)
  value_taken q Update e h = rw e

  pub address-taken : (k : Role) → addressed_by k ≡ true
      → taken a.0 (written_by k a) ≡ taken_from v place L k (at (memory a) r)
  unfolding taken_by address_in
  address-taken Value h = absurd (false≢true h)
  address-taken Address h = refl
  address-taken Destination h = absurd (false≢true h)
  address-taken Update h = absurd (false≢true h)

  pub none-taken : (k : Role) → read_by k ≡ false → addressed_by k ≡ false
      → taken 0 (written_by k a) ≡ taken_from v place L k (at (memory a) r)
  unfolding taken_by target_in
  none-taken Value h n = absurd (false≢true (sym h))
  none-taken Address h n = absurd (false≢true (sym n))
  none-taken Destination h n = refl
  none-taken Update h n = absurd (false≢true (sym h))

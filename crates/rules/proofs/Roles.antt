-- A role by what it does: it writes; it only reads; it takes an address.
use mathlib.Core.Path.{◌≡◌, sym}
use mathlib.Core.Bool.{true, false, false≢true}
use Rattle.machine.specs.declared.Role.{Role}
use Rattle.machine.specs.declared.Role.TheVariants.{Value, Address, Destination, Update}
use Rattle.machine.specs.Code.{read_by, written_to}
use Rattle.rules.specs.Rules.{addressed_by}

module _ (P : Role → Type 0) where
  pub written_role : P Destination → P Update → (k : Role) → written_to k ≡ true → P k
  written_role d u Value h = absurd (false≢true h)
  written_role d u Address h = absurd (false≢true h)
  written_role d u Destination h = d
  written_role d u Update h = u

  pub value_role : P Value → (k : Role) → written_to k ≡ false → read_by k ≡ true → P k
  value_role v Value h r = v
  value_role v Address h r = absurd (false≢true r)
  value_role v Destination h r = absurd (false≢true (sym h))
  value_role v Update h r = absurd (false≢true (sym h))

  pub unaddressed_role : P Value → (k : Role) → addressed_by k ≡ false → written_to k ≡ false → P k
  unaddressed_role v Value a h = v
  unaddressed_role v Address a h = absurd (false≢true (sym a))
  unaddressed_role v Destination a h = absurd (false≢true (sym h))
  unaddressed_role v Update a h = absurd (false≢true (sym h))

  pub address_role : P Address → (k : Role) → written_to k ≡ false → read_by k ≡ false → P k
  address_role a Value h r = absurd (false≢true (sym r))
  address_role a Address h r = a
  address_role a Destination h r = absurd (false≢true (sym h))
  address_role a Update h r = absurd (false≢true (sym h))

-- What a role takes of an operand that is surely there.
use Prim.Native.Nat.{ℕ, ◌%◌, ◌<◌}
use mathlib.Core.Path.{◌≡◌, refl, subst}
use mathlib.Core.Bool.{true, false, false≢true}
use Rattle.std.specs.Prelude.{Option, Some, None}
use Rattle.machine.specs.declared.Access.TheVariants.{Read}
use Rattle.machine.specs.declared.RealAddress.{RealAddress}
use Rattle.machine.specs.declared.Role.{Role}
use Rattle.machine.specs.declared.Role.TheVariants.{Value, Address, Destination, Update}
use Rattle.machine.specs.declared.VirtualAddress.{VirtualAddress}
use Rattle.machine.specs.Words.{pick, span}
use Rattle.machine.specs.State.{Registers, reg}
use Rattle.machine.specs.Alarms.{got}
use Rattle.machine.specs.Map.{View, read_bytes}
use Rattle.machine.specs.Operands.{Fields, immediate, register, memory, past, fields_at, operand_at, value_in, address_in}
use Rattle.machine.specs.Operands.{target_in, taken_by}
use Rattle.machine.specs.Code.{read_by, written_to}
use Rattle.rules.specs.Rules.{addressed_by}
use Rattle.rules.proofs.Roles.{written_role, unaddressed_role}
use Rattle.sure.specs.declared.Spot.{Spot}
use Rattle.sure.specs.declared.Spot.TheVariants as spot
use Rattle.sure.specs.declared.Goes.TheVariants as goes
use Rattle.sure.specs.declared.Taken.{Taken}
use Rattle.sure.specs.Answers.{SpotOf, SpotFrom, TakenFrom, TakenIn, TakenOf, OperandOf}

-- ---- In memory

module _ (v : View) (L : ℕ) (x : VirtualAddress) where
  pub takes_address : (k : Role) → addressed_by k ≡ true → TakenFrom v L k (memory x) (Some (record { number = x.0; goes = goes.Nowhere }))
  unfolding taken_by address_in
  takes_address Value h = absurd (false≢true h)
  takes_address Address h = record { same = λ place r. refl }
  takes_address Destination h = absurd (false≢true h)
  takes_address Update h = absurd (false≢true h)

  module _ (n : ℕ) (e : read_bytes v Read L x ≡ got n) where
    pub takes_written : (a : RealAddress) (k : Role) → written_to k ≡ true
        → TakenFrom v L k (memory x) (Some (record { number = pick (read_by k) n 0; goes = goes.Memory x a }))
    unfolding taken_by value_in target_in
    takes_written a =
        written_role (λ k. TakenFrom v L k (memory x) (Some (record { number = pick (read_by k) n 0; goes = goes.Memory x a })))
        (record { same = λ place r. refl }) (record { same = λ place r. rw e })

    pub takes_value : (k : Role) → addressed_by k ≡ false → written_to k ≡ false
        → TakenFrom v L k (memory x) (Some (record { number = pick (read_by k) n 0; goes = goes.Nowhere }))
    unfolding taken_by value_in
    takes_value =
        unaddressed_role (λ k. TakenFrom v L k (memory x) (Some (record { number = pick (read_by k) n 0; goes = goes.Nowhere })))
        (record { same = λ place r. rw e })

-- ---- In a register, of which the last L bytes make up n

module _ (v : View) (L x whole n : ℕ) (low : n ≡ whole % span L) where
  pub register_written : (k : Role) → written_to k ≡ true
      → TakenIn v L k x whole (Some (record { number = pick (read_by k) n 0; goes = goes.Register x }))
  unfolding taken_by value_in target_in
  register_written =
      written_role (λ k. TakenIn v L k x whole (Some (record { number = pick (read_by k) n 0; goes = goes.Register x })))
      (record { same = λ place r e. refl }) (record { same = λ place r e. rw (low, e) })

  pub register_value : (k : Role) → addressed_by k ≡ false → written_to k ≡ false
      → TakenIn v L k x whole (Some (record { number = pick (read_by k) n 0; goes = goes.Nowhere }))
  unfolding taken_by value_in
  register_value =
      unaddressed_role (λ k. TakenIn v L k x whole (Some (record { number = pick (read_by k) n 0; goes = goes.Nowhere })))
      (record { same = λ place r e. rw (low, e) })

-- ---- A number

pub number_value : (v : View) (L z : ℕ) → z < span L → TakenOf v L Value (spot.Number z) (Some (record { number = z; goes = goes.Nowhere }))
unfolding taken_by value_in
number_value v L z fits = (fits, record { same = λ place r. refl })

-- ---- The operand at R15

-- a form that steps no register
pub unstepped : (v : View) (L : ℕ) (k : Fields) (r : Registers) (s : Option Spot) → SpotOf r k s → SpotFrom v L k r r s
unstepped v L k r (Some (spot.Number z)) p = λ fits. record { same = λ place. p.same v place L fits }
unstepped v L k r (Some (spot.Register x n)) p = (record { same = λ place. p.0.same v place L }, p.1)
unstepped v L k r (Some (spot.Memory a)) p = record { same = λ place. p.same v place L }
unstepped v L k r None p = tt

module _ (v : View) (L : ℕ) (k : Role) (r : Registers) (f : Fields) (h : got f ≡ fields_at v (reg r 15)) where
  -- from registers r on to registers q
  leads : (q : Registers) (s : Spot) → SpotFrom v L f (past 6 r) q (Some s)
      → (t : Option Taken) → TakenOf v L k s t → OperandOf v L k r q t
  unfolding operand_at
  leads q (spot.Number z) p (Some n) t = record {
    location = immediate z;
    found = λ place. rw (← h) ((p t.0).same place);
    same = λ place. t.1.same place q;
  }
  leads q (spot.Register x y) p (Some n) t = record {
    location = register x;
    found = λ place. rw (← h) (p.0.same place);
    same = λ place. t.same place q p.1;
  }
  leads q (spot.Memory a) p (Some n) t = record {
    location = memory a;
    found = λ place. rw (← h) (p.same place);
    same = λ place. t.same place q;
  }
  leads q s p None t = tt

  -- p are the registers with R15 past the operand
  pub gives_from : (p q : Registers) → p ≡ past 6 r → (s : Spot) → SpotFrom v L f p q (Some s)
      → (t : Option Taken) → TakenOf v L k s t → OperandOf v L k r q t
  gives_from p q e s h = leads q s (subst (λ (x : Registers). SpotFrom v L f x q (Some s)) e h)

  -- and where no register is stepped
  pub gives : (q : Registers) → q ≡ past 6 r → (s : Spot) → SpotOf q f (Some s)
      → (t : Option Taken) → TakenOf v L k s t → OperandOf v L k r q t
  gives q e s h = gives_from q q e s (unstepped v L f q (Some s) h)

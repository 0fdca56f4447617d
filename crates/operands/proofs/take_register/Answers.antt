-- `take_register` is right: a role writes, only reads, or wants an address.
use Prim.Native.Nat.{ℕ}
use mathlib.Core.Path.{◌≡◌, refl, sym}
use mathlib.Core.Bool.{true, false}
use Rattle.std.specs.Prelude.{Ok, Err}
use Rattle.machine.specs.declared.Fault.{Fault}
use Rattle.machine.specs.declared.Role.{Role}
use Rattle.machine.specs.declared.Alarm.TheVariants as alarms
use Rattle.machine.specs.declared.Target.TheVariants.{Nowhere, Register}
use Rattle.machine.specs.Words.{pick}
use Rattle.machine.specs.Operands.{value_in, address_in, target_in, taken_by}
use Rattle.machine.specs.Code.{read_by, written_to}
use Rattle.rules.proofs.Roles.{written_role, value_role, address_role}
use Rattle.operands.specs.Answers.{TakesRegister}
use Rattle.operands.proofs.take_register.Goals as goal

module _ (place x n : ℕ) where
  writes : (k : Role) → written_to k ≡ true → TakesRegister (Ok (record { number = pick (read_by k) n 0; target = Register x })) place k x n
  unfolding taken_by value_in target_in
  writes =
      written_role (λ k. TakesRegister (Ok (record { number = pick (read_by k) n 0; target = Register x })) place k x n)
      (record { same = λ v L r e. refl }) (record { same = λ v L r e. rw e })

  reads : (k : Role) → written_to k ≡ false → read_by k ≡ true → TakesRegister (Ok (record { number = n; target = Nowhere })) place k x n
  unfolding taken_by value_in
  reads = value_role (λ k. TakesRegister (Ok (record { number = n; target = Nowhere })) place k x n) (record { same = λ v L r e. rw e })

  has-none : (f : Fault) → f ≡ record { alarm = alarms.Operand; argument = place } → (k : Role) → written_to k ≡ false
      → read_by k ≡ false → TakesRegister (Err f) place k x n
  unfolding taken_by address_in
  has-none f e = address_role (λ k. TakesRegister (Err f) place k x n) (record { same = λ v L r d. rw e })

pub returns-then-writes-clause-value : goal.returns-then-writes-clause-value
returns-then-writes-clause-value c = rw c.number.ensures (writes _ _ _ _ (sym c.if-writes.ensures))

pub returns-then-reads-clause-value : goal.returns-then-reads-clause-value
returns-then-reads-clause-value c = reads _ _ _ _ (sym c.if-writes.ensures) (sym c.if-reads.ensures)

pub returns-clause-value : goal.returns-clause-value
returns-clause-value c = has-none _ _ _ _ c.misplaced.ensures _ (sym c.if-writes.ensures) (sym c.if-reads.ensures)

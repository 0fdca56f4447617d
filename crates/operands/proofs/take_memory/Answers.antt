-- `take_memory` is right: what a role reads goes with its target, of the others one takes the address,
-- and a destination takes nothing.
use mathlib.Core.Path.{sym}
use Rattle.std.proofs.lemmas.Result.{err_from_is_err_and}
use Rattle.operands.proofs.Taking.{value_taken, address-taken, none-taken}
use Rattle.operands.proofs.take_memory.Goals as goal

pub returns-in_err-number-clause-value : goal.returns-in_err-number-clause-value
returns-in_err-number-clause-value c =
    let p = err_from_is_err_and c.from_residual.result c.from_residual.ensures.1 in
    rw (p.1, p.2)
    (record { same = λ place r. value_taken _ place _ _ r _ c.args.role c.in_err-number.ensures (sym c.if-reads.ensures) })

pub returns-in_ok-number-clause-value : goal.returns-in_ok-number-clause-value
returns-in_ok-number-clause-value c =
    rw c.written-target.ensures.value
    (record { same = λ place r. value_taken _ place _ _ r _ c.args.role c.in_ok-number.ensures (sym c.if-reads.ensures) })

pub returns-then-addresses-clause-value : goal.returns-then-addresses-clause-value
returns-then-addresses-clause-value c =
    rw c.written-target.ensures.value
    (record { same = λ place r. address-taken _ place _ _ r _ (sym c.if-addresses.ensures) })

pub returns-else-addresses-clause-value : goal.returns-else-addresses-clause-value
returns-else-addresses-clause-value c =
    rw c.written-target.ensures.value
    (record { same = λ place r. none-taken _ place _ _ r _ (sym c.if-reads.ensures) (sym c.if-addresses.ensures) })

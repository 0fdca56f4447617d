-- `take` is right: a number that fits serves as a value alone, and a register gives its low end.
use mathlib.Core.Path.{sym}
use Rattle.sure.proofs.Taking.{register_written, register_value, number_value}
use Rattle.sure.proofs.take.Goals as goal

pub returns-in-Value-clause-value : goal.returns-in-Value-clause-value
returns-in-Value-clause-value c =
    rw (c.in-Number.is, c.in-Value.is) (number_value _ _ _ (rw c.span_of.ensures.value at c.if-z-span_of.true))

pub returns-then-writes-clause-value : goal.returns-then-writes-clause-value
returns-then-writes-clause-value c =
    rw (c.in-Register.is, c.number-number.ensures)
    (register_written _ _ _ _ _ c.low.ensures.value _ (sym c.if-writes.ensures))

pub returns-else-writes-clause-value : goal.returns-else-writes-clause-value
returns-else-writes-clause-value c =
    rw (c.in-Register.is, c.number-number.ensures)
    (register_value _ _ _ _ _ c.low.ensures.value _ (sym c.if-addresses.ensures) (sym c.if-writes.ensures))

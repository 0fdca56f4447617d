-- `take` is right: each kind of operand gives what the role takes, and only an immediate value is no
-- destination.
use Rattle.std.proofs.Common.{sym, ◌∙◌}
use Rattle.floating.proofs.Taking.{immediate_written, immediate_taken, register_taken}
use Rattle.floating.proofs.take.Goals as goal

pub returns-then-writes-clause-value : goal.returns-then-writes-clause-value
returns-then-writes-clause-value c =
    rw (c.in-Immediate.is, c.misplaced.ensures)
    (immediate_written _ _ _ _ _ _ (sym c.writes.ensures ∙ c.if-writes.true))

pub returns-else-writes-clause-value : goal.returns-else-writes-clause-value
returns-else-writes-clause-value c =
    rw (c.in-Immediate.is, c.bits_for.ensures, c.wide.ensures)
    (immediate_taken _ _ _ _ _ _ (sym c.writes.ensures ∙ c.if-writes.false))

pub returns-in-Register-clause-value : goal.returns-in-Register-clause-value
returns-in-Register-clause-value c =
    rw (
      c.in-Register.is,
      c.target_for.ensures.value,
      c.bits_for-in-Register.ensures,
      c.in_register.ensures,
    )
    (register_taken _ _ _ _ _ _)

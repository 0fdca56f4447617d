-- With nothing pending no level is due; in kernel mode none is entered.
use Rattle.std.proofs.Common.{sym}
use borrow.Author.Tests.{lt-ltb, le-ltb}
use Rattle.levels.specs.Due.{interrupt_of}
use Rattle.levels.proofs.Pending.{none_pending}
use Rattle.levels.proofs.interrupt.Goals as goal
use Rattle.levels.proofs.interrupt.Goals.{else-pending-ne0-via-then-pending-ne0+else-status-lt2147483648, else-pending-ne0-via-else-pending-ne0}

pub returns-then-status-lt2147483648-clause-value : goal.returns-then-status-lt2147483648-clause-value
unfolding interrupt_of
returns-then-status-lt2147483648-clause-value c = rw (lt-ltb _ _ c.if-status-lt2147483648.true) c.due.ensures.value

pub returns-else-pending-ne0-clause-value : goal.returns-else-pending-ne0-clause-value
unfolding interrupt_of
returns-else-pending-ne0-clause-value c =
    elim c.else-pending-ne0.branch [
      | else-pending-ne0-via-then-pending-ne0+else-status-lt2147483648 w ↦ rw (le-ltb _ _ w.if-status-lt2147483648.false)
      | else-pending-ne0-via-else-pending-ne0 w ↦ rw w.if-pending-ne0.false (sym (none_pending _))
    ]

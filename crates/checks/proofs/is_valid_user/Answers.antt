-- `is_valid_user` is right: the first test tells the mode; in user mode the second decides.
use borrow.Author.Tests.{lt-ltb, le-ltb}
use Rattle.machine.specs.State.{valid_user_status}
use Rattle.checks.proofs.is_valid_user.Goals as goal

pub returns-then-status-lt2147483648 : goal.returns-then-status-lt2147483648
unfolding valid_user_status
returns-then-status-lt2147483648 c = simp (lt-ltb _ _ c.if-status-lt2147483648.true, c.is_valid.ensures)

pub returns-else-status-lt2147483648 : goal.returns-else-status-lt2147483648
unfolding valid_user_status
returns-else-status-lt2147483648 c = simp (le-ltb _ _ c.if-status-lt2147483648.false)

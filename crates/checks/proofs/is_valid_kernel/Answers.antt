-- `is_valid_kernel` is right: the first test tells the mode; in kernel mode the second decides.
use borrow.Author.Tests.{lt-ltb, le-ltb, lt-leb}
use Rattle.machine.specs.State.{valid_kernel_status}
use Rattle.checks.proofs.is_valid_kernel.Goals as goal

pub returns-then-status-ge2147483648 : goal.returns-then-status-ge2147483648
unfolding valid_kernel_status
returns-then-status-ge2147483648 c = simp (le-ltb _ _ c.if-status-ge2147483648.true, c.is_valid.ensures)

pub returns-else-status-ge2147483648 : goal.returns-else-status-ge2147483648
unfolding valid_kernel_status
returns-else-status-ge2147483648 c = simp (lt-leb _ _ c.if-status-ge2147483648.false, lt-ltb _ _ c.if-status-ge2147483648.false)

-- `look` is right: the test of the status picks the view of its mode, and in kernel mode the test
-- of the address is that view.
use borrow.Author.Tests.{le-ltb, lt-ltb}
use Rattle.machine.specs.Map.{view_by, unmapped}
use Rattle.lookup.proofs.look.Goals as goal

pub returns-then-status-lt2147483648 : goal.returns-then-status-lt2147483648
unfolding view_by
returns-then-status-lt2147483648 c = simp (← c.look_mapped.ensures, lt-ltb _ _ c.if-status-lt2147483648.true)

pub real-requires : goal.real-requires
real-requires c = le-ltb _ _ c.if-status-lt2147483648.false

pub returns-then-x-mem : goal.returns-then-x-mem
unfolding view_by unmapped
returns-then-x-mem c =
    simp (c.real.ensures, lt-ltb _ _ c.if-x-mem.true, le-ltb _ _ c.if-status-lt2147483648.false)

pub returns : goal.returns
unfolding view_by unmapped
returns c = simp (c.at_byte.ensures, le-ltb _ _ c.if-x-mem.false, le-ltb _ _ c.if-status-lt2147483648.false)

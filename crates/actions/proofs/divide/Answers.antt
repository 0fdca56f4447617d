-- `divide` is right: the divisor's last L bytes are zero where the alarm is.
use borrow.Author.Tests.{ne_eqb}
use Rattle.machine.specs.Integers.{operate}
use Rattle.actions.proofs.divide.Goals as goal

pub returns-then-low-eq0 : goal.returns-then-low-eq0
unfolding operate
returns-then-low-eq0 c = simp (← c.low.ensures.value, c.if-low-eq0.true)

pub returns : goal.returns
unfolding operate
returns c = simp (c.divide.ensures.value, ← c.low.ensures.value, ne_eqb _ _ c.if-low-eq0.false)

-- `block_fits` is right: the first test is the alignment, the second the end; a sum of an address
-- and a length that is bounded fits 64 bits.
use borrow.Author.Tests.{eq-eqb, ne_eqb}
use Rattle.machine.specs.State.{block_fits}
use Rattle.checks.proofs.block_fits.Goals as goal

pub returns-then-a-eq0 : goal.returns-then-a-eq0
unfolding block_fits
returns-then-a-eq0 c = simp (eq-eqb _ _ c.if-a-eq0.true)

pub returns-else-a-eq0 : goal.returns-else-a-eq0
unfolding block_fits
returns-else-a-eq0 c = simp (ne_eqb _ _ c.if-a-eq0.false)

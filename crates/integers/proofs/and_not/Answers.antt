-- `and_not` is right: the second low end and the first's complement, joined bit by bit.
use Rattle.integers.proofs.and_not.Goals as goal

pub returns : goal.returns
returns c = simp (c.plain.ensures.value, c.complement.ensures, c.low.ensures.value)

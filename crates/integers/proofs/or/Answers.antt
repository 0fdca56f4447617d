-- `or` is right: the two low ends, joined bit by bit.
use Rattle.integers.proofs.or.Goals as goal

pub returns : goal.returns
returns c = simp (c.plain.ensures.value, c.low-2.ensures.value, c.low.ensures.value)

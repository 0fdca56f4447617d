-- `signs_differ` is right: the two signs, compared.
use Rattle.integers.proofs.signs_differ.Goals as goal

pub returns : goal.returns
returns c = rw (c.differ.ensures, c.is_negative-2.ensures, c.is_negative.ensures)

-- `value` is right: F has the number of four bytes, D that of eight.
use Rattle.floats.proofs.value.Goals as goal

pub returns-in-F : goal.returns-in-F
returns-in-F c = rw (c.short_of.ensures, c.in-F.is)

pub returns-in-D : goal.returns-in-D
returns-in-D c = rw (c.long_of.ensures, c.in-D.is)

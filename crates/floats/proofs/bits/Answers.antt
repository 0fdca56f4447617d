-- `bits` is right: the bits of a value are those of its number, by its case.
use Rattle.floats.proofs.bits.Goals as goal

pub returns-in-Short : goal.returns-in-Short
returns-in-Short c = rw (c.short_bits.ensures, c.in-Short.is)

pub returns-in-Long : goal.returns-in-Long
returns-in-Long c = rw (c.long_bits.ensures, c.in-Long.is)

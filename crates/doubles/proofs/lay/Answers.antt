-- `lay` is right: the eight bytes of a value are the four of its high word and the four of its low
-- one.
use mathlib.Core.Path.{sym}
use Rattle.doubles.proofs.Parts.{laid_parts}
use Rattle.doubles.proofs.lay.Goals as goal

pub returns : goal.returns
returns c =
    rw (c.value_to-2.ensures, c.value_to.ensures)
    (sym (laid_parts _ 4 4 _ _))

-- `put` is right: four bytes in the place of a part of the memory are as they are one after another.
use native.Mathlib.Omega.{arith}
use Rattle.load.proofs.Putting.{room, part_laid}
use Rattle.load.proofs.put.Goals as goal

pub returns-in-Four : goal.returns-in-Four
returns-in-Four c =
    rw c.in-Four.is
    (part_laid _ _ _ _ _ c.copy_from_slice.ensures.after (omega arith) (omega (arith, room c.requires c.in-Four.is (omega arith))))

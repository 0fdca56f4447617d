-- `store` is right: an F is stored as a word, of which the last four bytes count.
use Rattle.machine.specs.Words.{bytes_of}
use Rattle.doubles.proofs.Parts.{bytes_parts}
use Rattle.floating.proofs.store.Goals as goal

pub returns-in-F : goal.returns-in-F
unfolding bytes_of
returns-in-F c =
    rw (c.in-F.is, bytes_parts 0 4)
    c.store.ensures

pub returns-in-D : goal.returns-in-D
returns-in-D c =
    rw c.in-D.is c.store-in-D.ensures

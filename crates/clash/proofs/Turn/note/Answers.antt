-- `note` is right: the tests are those of the definition.
use Rattle.clash.specs.Notes.{compared}
use Rattle.clash.proofs.Turn.note.Goals as goal

pub returns-then-first-half : goal.returns-then-first-half
unfolding compared
returns-then-first-half c = rw (c.in-Second.is, c.if-first-half.true)

pub returns-else-first-half : goal.returns-else-first-half
unfolding compared
returns-else-first-half c = rw (c.in-Second.is, c.if-first-half.false)

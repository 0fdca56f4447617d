-- `note` is right: each command's bytes are noted one after another from its place on, and a move's none.
use Rattle.machine.specs.Map.{real_writes_from}
use Rattle.clash.specs.Notes.{noted}
use Rattle.clash.proofs.note.Goals as goal

pub returns-in-Move : goal.returns-in-Move
unfolding noted real_writes_from
returns-in-Move c = rw c.in-Move.is

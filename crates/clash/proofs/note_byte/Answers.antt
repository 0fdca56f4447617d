-- `note_byte` is right: one put, one note.
use mathlib.Core.Path.{sym}
use Rattle.clash.proofs.Noting.{noted_byte}
use Rattle.clash.proofs.note_byte.Goals as goal

pub returns : goal.returns
returns c =
    let a = c.args in
    rw (c.note.ensures, c.of.ensures.value)
    (sym (noted_byte a.half a.turn a.at a.byte a.scratch.now))

-- `halves_differ` is right: of zeros the notes of both lists say at each address what the round asks.
use mathlib.Core.Path.{◌∙◌, ap}
use native.Mathlib.Omega.{arith}
use lib.ListN.{length}
use Rattle.lists.specs.Format.{AllBytes}
use Rattle.load.proofs.Outcomes.{as_long}
use Rattle.clash.proofs.Noting.{noted-length}
use Rattle.clash.proofs.Rounds.{round_found, round_clears}
use Rattle.clash.proofs.halves_differ.Goals as goal

pub note_all-requires-2 : goal.note_all-requires-2
note_all-requires-2 c = as_long c.requires.sound_2 (ap length c.note_all.ensures ∙ noted-length _ _ _ _)

pub returns-clause-answer : goal.returns-clause-answer
returns-clause-answer c =
    let a = c.args in
    let bytes : AllBytes a.first.now = λ i. omega (arith, c.type_inv.first i) in
    rw (c.take_notes.ensures.answer, c.note_all-2.ensures, c.note_all.ensures)
    (round_found a.half a.scratch.now a.first.now a.second.now c.requires.scratch_value c.requires.sound
    c.requires.sound_2 bytes)

pub returns-clause-zeros : goal.returns-clause-zeros
returns-clause-zeros c =
    let a = c.args in
    rw (c.take_notes.ensures.zeros, c.note_all-2.ensures, c.note_all.ensures)
    (round_clears a.half a.scratch.now a.first.now a.second.now c.requires.scratch_value)

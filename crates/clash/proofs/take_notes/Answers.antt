use mathlib.Core.Path.{refl}
use native.Mathlib.Omega.{arith}
use borrow.Author.Fill.{fill_none, fill_more}
use Rattle.clash.specs.Notes.{found_below}
use Rattle.clash.proofs.Rounds.{found_next}
use Rattle.clash.proofs.take_notes.Goals as goal

pub loop-note-init : goal.loop-note-init
unfolding found_below
loop-note-init c = (fill_none _ 0, refl)

pub loop-note-preserved : goal.loop-note-preserved
loop-note-preserved c =
    let turn = c.loop-note in
    let all = c.args.scratch.now in (
      rw turn.invariant.0 (fill_more turn.note-index 0 all (omega arith)),
      rw turn.invariant.0 (found_next all turn.note-index turn.found turn.invariant.1),
    )

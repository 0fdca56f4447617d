use mathlib.Core.Path.{sym, ◌∙◌}
use native.Mathlib.Omega.{arith}
use lib.ListN.{length-replicate, replicate, get_or-replicate}
use Rattle.clash.proofs.Noting.{noted-next, none-noted}
use Rattle.clash.proofs.note_copies.Goals as goal

pub loop-i-preserved : goal.loop-i-preserved
loop-i-preserved c =
    let turn = c.loop-i in
    let a = c.args in
    let next = noted-next a.half a.turn (replicate a.count a.byte) turn.i a.at turn.scratch
    (rw length-replicate (omega arith)) in
    rw c.note_byte.ensures
    (sym (rw (get_or-replicate a.count turn.i a.byte 0 (omega arith)) at next) ∙ turn.invariant)

pub returns : goal.returns
returns c =
    let end = c.loop-i in
    let a = c.args in
    sym (none-noted a.half a.turn (replicate a.count a.byte) end.i a.at end.scratch
    (rw length-replicate (omega arith)))
    ∙ end.invariant

use mathlib.Core.Path.{sym, ◌∙◌}
use native.Mathlib.Omega.{arith}
use Rattle.clash.proofs.Noting.{noted-next, none-noted}
use Rattle.clash.proofs.note_bytes.Goals as goal

pub loop-i-preserved : goal.loop-i-preserved
loop-i-preserved c =
    let turn = c.loop-i in
    let a = c.args in
    rw c.note_byte.ensures
    (sym (noted-next a.half a.turn a.bytes.now turn.i a.at turn.scratch (omega arith)) ∙ turn.invariant)

pub returns : goal.returns
returns c =
    let end = c.loop-i in
    let a = c.args in
    sym (none-noted a.half a.turn a.bytes.now end.i a.at end.scratch (omega arith)) ∙ end.invariant

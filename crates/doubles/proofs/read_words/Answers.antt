-- `read_words` is right: a read of eight bytes is one of four, and then one of the four after them.
use mathlib.Core.Path.{◌∙◌, ap}
use Rattle.std.proofs.lemmas.Result.{err_from_is_err_and}
use Rattle.machine.specs.Alarms.{got}
use Rattle.doubles.proofs.Parts.{both_read, first_stops, second_stops}
use Rattle.doubles.proofs.read_words.Goals as goal

pub returns-in_err-high : goal.returns-in_err-high
returns-in_err-high c =
    let p = err_from_is_err_and c.from_residual.result c.from_residual.ensures.1 in
    rw (p.1, p.2) (first_stops _ _ 4 4 _ c.in_err-high.ensures)

pub returns-in_err-low : goal.returns-in_err-low
returns-in_err-low c =
    let p = err_from_is_err_and c.from_residual-in_err-low.result c.from_residual-in_err-low.ensures.1 in
    rw (p.1, p.2) (second_stops _ _ 4 4 _ c.in_ok-high.ensures (rw c.plus.ensures at c.in_err-low.ensures))

pub returns : goal.returns
returns c =
    ap got c.joined.ensures
    ∙ both_read _ _ 4 4 _ c.in_ok-high.ensures (rw c.plus.ensures at c.in_ok-low.ensures)

-- `read` is right: where the eight bytes lie in one page, the answer for the first is that for all;
-- others are read word by word.
use mathlib.Core.Path.{◌∙◌, sym, ap}
use native.Mathlib.Omega.{arith}
use Rattle.std.proofs.Common.{Ok}
use Rattle.std.proofs.lemmas.Result.{err_from_is_err_and}
use Rattle.machine.specs.declared.Access.TheVariants.{Read}
use Rattle.machine.specs.Alarms.{got}
use Rattle.lookup.proofs.Wholes.{Adjoin, whole-at, whole_alarm, adjoin_inside, adjoin_read, stops_read}
use Rattle.doubles.proofs.read.Goals as goal

pub returns-in_err-r : goal.returns-in_err-r
returns-in_err-r c =
    let p = err_from_is_err_and c.from_residual.result c.from_residual.ensures.1 in
    rw (p.1, p.2)
    (sym (stops_read (whole_alarm c.in_err-r.was c.look_whole.ensures c.requires (omega arith) (omega arith))))

-- the bytes lie from a place on
pub double_at-requires : goal.double_at-requires
double_at-requires c =
    let adjoin : (let a = c.args in Adjoin a.status a.map a.mem.now a.x Read 8 c.in-Some.r) =
    whole-at (c.in_ok-r.was ∙ ap Ok c.in-Some.is) c.look_whole.ensures c.requires (omega arith) (omega arith) in
    adjoin_inside adjoin

pub returns-in-Some : goal.returns-in-Some
returns-in-Some c =
    let adjoin : (let a = c.args in Adjoin a.status a.map a.mem.now a.x Read 8 c.in-Some.r) =
    whole-at (c.in_ok-r.was ∙ ap Ok c.in-Some.is) c.look_whole.ensures c.requires (omega arith) (omega arith) in
    ap got c.double_at.ensures ∙ sym (adjoin_read adjoin)

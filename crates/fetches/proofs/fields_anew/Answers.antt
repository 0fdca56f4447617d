-- `fields_anew` is right: where the six bytes lie in one page, the answer for the first is that for
-- all; others are read byte by byte.
use Rattle.std.proofs.Common.{Ok, ap, ◌∙◌, arith}
use Rattle.std.proofs.lemmas.Result.{err_from_is_err_and}
use Rattle.machine.specs.declared.Access.TheVariants.{Fetch}
use Rattle.machine.specs.Alarms.{got}
use Rattle.lookup.proofs.Wholes.{Adjoin, whole-at, whole_alarm, adjoin_finds, adjoin_inside}
use Rattle.fetches.proofs.OnePage.{fields_page, fields_alarm}
use Rattle.fetches.proofs.fields_anew.Goals as goal

pub returns-in_err-r : goal.returns-in_err-r
returns-in_err-r c =
    let p = err_from_is_err_and c.from_residual.result c.from_residual.ensures.1 in
    let stops = whole_alarm c.in_err-r.was c.look_whole.ensures c.requires (omega arith) (omega arith) in
    rw (p.1, p.2) (fields_alarm _ _ _ _ _ _ stops.bytes.address stops.miss)

-- the six bytes lie from a place on
pub fields_in-requires : goal.fields_in-requires
fields_in-requires c =
    let adjoin : (let a = c.args in Adjoin a.status a.map a.mem.now a.x Fetch 6 c.in-Some.r) =
    whole-at (c.in_ok-r.was ∙ ap Ok c.in-Some.is) c.look_whole.ensures c.requires (omega arith) (omega arith) in
    adjoin_inside adjoin

pub returns-in-Some : goal.returns-in-Some
returns-in-Some c =
    let adjoin : (let a = c.args in Adjoin a.status a.map a.mem.now a.x Fetch 6 c.in-Some.r) =
    whole-at (c.in_ok-r.was ∙ ap Ok c.in-Some.is) c.look_whole.ensures c.requires (omega arith) (omega arith) in
    ap got c.fields_in.ensures ∙ fields_page (adjoin_finds adjoin) adjoin.bytes.page

-- `read` is right: where the bytes lie in one page, the answer for the first is that for all;
-- others are read byte by byte.
use Rattle.std.proofs.Common.{Ok, sym, ap, ◌∙◌, arith}
use Rattle.std.proofs.lemmas.Result.{err_from_is_err_and}
use Rattle.machine.specs.declared.Access.TheVariants.{Read}
use Rattle.machine.specs.Words.{length_of}
use Rattle.machine.specs.Alarms.{got}
use Rattle.lookup.proofs.Wholes.{Adjoin, whole-at, whole_alarm, adjoin_inside, adjoin_read, stops_read}
use Rattle.words.proofs.Values.{length_bounds}
use Rattle.reads.proofs.read.Goals as goal

pub returns-in_err-r : goal.returns-in_err-r
returns-in_err-r c =
    let p = err_from_is_err_and c.from_residual.result c.from_residual.ensures.1 in
    rw (p.1, p.2)
    (sym (stops_read (whole_alarm c.in_err-r.was (rw c.length-n.ensures at c.look_whole.ensures) c.requires
    (omega arith) (omega (arith, length_bounds c.args.size)))))

-- the bytes lie from a place on
pub value_at-requires : goal.value_at-requires
value_at-requires c =
    let adjoin : (let a = c.args in Adjoin a.status a.map a.mem.now a.x Read (length_of a.size) c.in-Some.r) =
    whole-at (c.in_ok-r.was ∙ ap Ok c.in-Some.is) (rw c.length-n.ensures at c.look_whole.ensures) c.requires
    (omega arith) (omega (arith, length_bounds c.args.size)) in
    adjoin_inside adjoin

pub returns-in-Some : goal.returns-in-Some
returns-in-Some c =
    let adjoin : (let a = c.args in Adjoin a.status a.map a.mem.now a.x Read (length_of a.size) c.in-Some.r) =
    whole-at (c.in_ok-r.was ∙ ap Ok c.in-Some.is) (rw c.length-n.ensures at c.look_whole.ensures) c.requires
    (omega arith) (omega (arith, length_bounds c.args.size)) in
    ap got c.value_at.ensures ∙ sym (adjoin_read adjoin)

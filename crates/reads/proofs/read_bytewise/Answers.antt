use Rattle.std.proofs.Common.{sym, ◌∙◌, arith}
use Rattle.std.proofs.lemmas.Result.{err_from_is_err_and}
use Rattle.lookup.proofs.Lookups.{look_found, look_miss, look_inside}
use Rattle.reads.proofs.Reading.{three_bytes, one_byte_more, read_next, read_stops, read_ends}
use Rattle.reads.proofs.read_bytewise.Goals as goal

pub returns-in_err-r-clause-value : goal.returns-in_err-r-clause-value
returns-in_err-r-clause-value c =
    let p = err_from_is_err_and c.from_residual.result c.from_residual.ensures.1 in
    rw (p.1, p.2)
    (sym (c.loop-i.invariant.1 ∙ read_stops _ _ _ _ _ _ _ c.loop-i-test.true c.plus.ensures _ _
    (look_miss _ _ _ _ _ _ _ c.in_err-r.was c.look.ensures)))

pub overflow_mul-acc : goal.overflow_mul-acc
overflow_mul-acc c =
    let turn = c.loop-i in
    omega (arith, three_bytes turn.i turn.acc (omega arith) turn.invariant.0)

pub bounds-mem-r : goal.bounds-mem-r
bounds-mem-r c = look_inside _ _ _ _ _ _ _ c.in_ok-r.was c.look.ensures

pub overflow_add-acc : goal.overflow_add-acc
overflow_add-acc c =
    let turn = c.loop-i in
    omega (arith, three_bytes turn.i turn.acc (omega arith) turn.invariant.0)

pub loop-i-preserved : goal.loop-i-preserved
loop-i-preserved c =
    let turn = c.loop-i in
    let found = look_found c.in_ok-r.was c.look.ensures c.requires.0 (omega arith) in (
      one_byte_more turn.i turn.acc _ turn.invariant.0 c.wide.ensures.1,
      turn.invariant.1 ∙ read_next _ _ _ _ _ _ _ c.loop-i-test.true c.plus.ensures _ _ found.hit c.wide.ensures.0,
    )

pub returns-clause-value : goal.returns-clause-value
returns-clause-value c = sym (c.loop-i.invariant.1 ∙ read_ends _ _ _ _ _ _ c.loop-i-test.false)

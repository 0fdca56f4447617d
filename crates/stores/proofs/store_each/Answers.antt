use Rattle.std.proofs.Common.{sym, ap, ◌∙◌, arith, length-set}
use Rattle.std.proofs.lemmas.Result.{err_from_is_err_and}
use Rattle.machine.proofs.Pages.{found_inside}
use Rattle.machine.specs.Map.{view_by}
use Rattle.stores.specs.Answers.{wrote}
use Rattle.lookup.proofs.Lookups.{look_hit, look_miss}
use Rattle.stores.proofs.Storing.{all_located, one_stopped, one_placed, one_written, all_written}
use Rattle.stores.proofs.store_each.Goals as goal

pub returns-in_err-places : goal.returns-in_err-places
returns-in_err-places c =
    let turn = c.loop-i in
    let a = c.args in
    let p = err_from_is_err_and c.from_residual.result c.from_residual.ensures.1 in
    rw (p.1, p.2)
    (rw (one_stopped (view_by a.status a.map a.mem.now) a.mem.now a.x.0 turn.places
    a.bytes.now turn.i _ _ _ c.loop-i-test.true turn.invariant.1
    c.plus.ensures (look_miss _ _ _ _ _ _ _ c.in_err-places.was c.look.ensures)))

pub loop-i-preserved : goal.loop-i-preserved
loop-i-preserved c =
    let turn = c.loop-i in
    let a = c.args in (
      simp length-set turn.invariant.0,
      one_placed (view_by a.status a.map a.mem.now) a.mem.now a.x.0 turn.places turn.i _ _
          (omega arith) turn.invariant.1 c.plus.ensures (look_hit _ _ _ _ _ _ _ c.in_ok-places.was c.look.ensures),
    )

pub overflow_cast-mem : goal.overflow_cast-mem
overflow_cast-mem c =
    omega (arith, found_inside _ _ _ _ _ _ (c.loop-i.invariant.1 c.loop-j.j (omega arith)))

pub bounds-mem-place : goal.bounds-mem-place
bounds-mem-place c =
    omega (arith, found_inside _ _ _ _ _ _ (c.loop-i.invariant.1 c.loop-j.j (omega arith)))

pub loop-j-preserved : goal.loop-j-preserved
loop-j-preserved c =
    sym (one_written _ _ _ c.loop-j.j c.loop-j-test.true) ∙ c.loop-j.invariant

pub returns : goal.returns
returns c =
    let a = c.args in
    rw (all_located (view_by a.status a.map a.mem.now) a.mem.now a.x.0 c.loop-i.places
    a.bytes.now (λ k h. c.loop-i.invariant.1 k (omega arith)))
    (ap wrote (sym (all_written _ _ _ _ c.loop-j-test.false) ∙ c.loop-j.invariant))

use Rattle.std.proofs.Common.{sym, ◌∙◌}
use Rattle.std.proofs.lemmas.Result.{err_from_is_err_and}
use Rattle.machine.specs.Map.{view_by, located, commit}
use Rattle.results.proofs.Ends.{same_status}
use Rattle.stack.proofs.Stack.{popped-next, popped_alarm, popped_all}
use Rattle.stack.proofs.pop_each.Goals as goal

pub returns-in_err-regs : goal.returns-in_err-regs
returns-in_err-regs c =
    let a = c.args in
    let turn = c.loop-i in
    let p = err_from_is_err_and c.from_residual.result c.from_residual.ensures.1 in
    rw (
      p.1,
      p.2,
      ← turn.invariant,
      popped_alarm (view_by a.status a.map a.mem.now) 15 turn.i turn.regs
          c.loop-i-test.true _ _ c.in_err-regs.ensures,
    )

pub loop-i-preserved : goal.loop-i-preserved
loop-i-preserved c =
    let a = c.args in
    let turn = c.loop-i in
    rw c.plus.ensures
    (sym (popped-next (view_by a.status a.map a.mem.now) 15 turn.i turn.regs
    c.loop-i-test.true _ c.in_ok-regs.ensures) ∙ turn.invariant)

pub returns : goal.returns
unfolding located commit
returns c =
    let a = c.args in
    let turn = c.loop-i in
    rw (
      ← turn.invariant,
      popped_all (view_by a.status a.map a.mem.now) 15 turn.i turn.regs
          c.loop-i-test.false,
      same_status,
    )

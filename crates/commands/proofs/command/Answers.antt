-- `command` is right: it ends at the first alarm of byte, mode and operands, or with what `finish`
-- makes of what the byte asks for; a floating command ends as `floating::command` has it.
use mathlib.Core.Path.{sym, ◌∙◌}
use Rattle.std.proofs.lemmas.Result.{err_from_is_err_and}
use Rattle.rules.proofs.OneSize.{words}
use Rattle.commands.proofs.Laws.{exec_unfetched, exec_floating, exec_forbidden, exec_alarm, exec_action}
use Rattle.commands.proofs.command.Goals as goal

pub returns-in_err-b : goal.returns-in_err-b
returns-in_err-b c =
    let a = c.args in
    let p = err_from_is_err_and c.from_residual.result c.from_residual.ensures.1 in
    rw (p.1, p.2) (exec_unfetched a.status a.map a.regs.now a.mem.now _ _ c.in_err-b.ensures.value)

pub returns-then-b-ge128 : goal.returns-then-b-ge128
returns-then-b-ge128 c =
    let a = c.args in
    c.command.ensures
    ∙ rw c.plus.ensures
    (exec_floating a.status a.map a.regs.now a.mem.now _ c.in_ok-b.ensures.value c.if-b-ge128.true)

pub returns-then-forbidden : goal.returns-then-forbidden
returns-then-forbidden c =
    let a = c.args in
    exec_forbidden a.status a.map a.regs.now a.mem.now _ c.in_ok-b.ensures.value c.if-b-ge128.false
    (sym c.if-forbidden.ensures)

pub take-requires-clause-uniform : goal.take-requires-clause-uniform
take-requires-clause-uniform c =
    let row = c.rules_of.ensures in
    record { words = λ e. rw row.rules (words _ c.in_ok-b.ensures.small (e ∙ row.size)) }

pub returns-in_err-o : goal.returns-in_err-o
returns-in_err-o c =
    let a = c.args in
    let p = err_from_is_err_and c.from_residual-in_err-o.result c.from_residual-in_err-o.ensures.1 in
    rw (p.1, p.2)
    (exec_alarm a.status a.map a.regs.now a.mem.now _ c.in_ok-b.ensures.value c.if-b-ge128.false
    (sym c.if-forbidden.ensures) _ _
    (rw (c.rules_of.ensures.rules, c.plus.ensures) at c.in_err-o.ensures.value))

pub returns-in_err-what : goal.returns-in_err-what
returns-in_err-what c =
    let a = c.args in
    let p = err_from_is_err_and c.from_residual-in_err-what.result c.from_residual-in_err-what.ensures.1 in
    rw (p.1, p.2)
    (rw (← c.in_err-what.ensures)
    at (exec_action a.status a.map a.regs.now a.mem.now _ c.in_ok-b.ensures.value c.if-b-ge128.false
    (sym c.if-forbidden.ensures) _
    (rw (c.rules_of.ensures.rules, c.plus.ensures) at c.in_ok-o.ensures.value)))

pub returns : goal.returns
returns c =
    let a = c.args in
    c.finish.ensures
    ∙ rw (← c.in_ok-what.ensures)
    at (exec_action a.status a.map a.regs.now a.mem.now _ c.in_ok-b.ensures.value c.if-b-ge128.false
    (sym c.if-forbidden.ensures) _
    (rw (c.rules_of.ensures.rules, c.plus.ensures) at c.in_ok-o.ensures.value))

-- `command` is right: it ends at the first alarm of its operands, or with what its byte asks for.
use mathlib.Core.Path.{◌∙◌}
use Rattle.std.proofs.lemmas.Result.{err_from_is_err_and}
use Rattle.machine.specs.Map.{view_by}
use Rattle.floating.proofs.Laws.{command_alarm, command_action_lem}
use Rattle.floating.proofs.command.Goals as goal

pub returns-in-Err : goal.returns-in-Err
returns-in-Err c =
    let a = c.args in
    command_alarm a.status a.mem.now (view_by a.status a.map a.mem.now) a.regs.now a.b _ _
    (rw (
      c.kind_in-kind.ensures,
      c.float_rules_of-rules.ensures.kind,
      c.float_rules_of-rules.ensures.roles,
    ) at c.in-Err.ensures.value)

pub returns-in_err-x : goal.returns-in_err-x
returns-in_err-x c =
    let a = c.args in
    let p = err_from_is_err_and c.from_residual.result c.from_residual.ensures.1 in
    let kind = c.kind_in-kind.ensures
    ∙ c.float_rules_of-rules.ensures.kind in
    let e = command_action_lem a.status a.mem.now (view_by a.status a.map a.mem.now) a.regs.now a.b _
    (rw (kind, c.float_rules_of-rules.ensures.roles) at c.in-Ok.ensures.value) in
    rw (p.1, p.2) (rw (← kind, ← c.in_err-x.ensures) at e)

pub returns-in-Give : goal.returns-in-Give
returns-in-Give c =
    let a = c.args in
    let kind = c.kind_in-kind.ensures
    ∙ c.float_rules_of-rules.ensures.kind in
    let e = command_action_lem a.status a.mem.now (view_by a.status a.map a.mem.now) a.regs.now a.b _
    (rw (kind, c.float_rules_of-rules.ensures.roles) at c.in-Ok.ensures.value) in
    c.put.ensures ∙ rw (← kind, ← c.in_ok-x.ensures, c.in-Give.is) at e

pub returns-in-Flags : goal.returns-in-Flags
returns-in-Flags c =
    let a = c.args in
    let kind = c.kind_in-kind.ensures
    ∙ c.float_rules_of-rules.ensures.kind in
    let e = command_action_lem a.status a.mem.now (view_by a.status a.map a.mem.now) a.regs.now a.b _
    (rw (kind, c.float_rules_of-rules.ensures.roles) at c.in-Ok.ensures.value) in
    rw c.with_flags.ensures (rw (← kind, ← c.in_ok-x.ensures, c.in-Flags.is) at e)

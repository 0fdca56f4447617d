-- `call` is right: R15 goes to the stack, whose pointer is lowered, and a store that ends gives the
-- command's end.
use Rattle.std.proofs.lemmas.Result.{err_from_is_err_and}
use Rattle.machine.specs.State.{flags_of}
use Rattle.machine.specs.Map.{view_by}
use Rattle.machine.specs.Commands.{called}
use Rattle.results.proofs.Ends.{stored-end, same_status}
use Rattle.stack.proofs.call.Goals as goal

pub returns-in_err-store : goal.returns-in_err-store
unfolding called
returns-in_err-store c =
    let a = c.args in
    let p = err_from_is_err_and c.from_residual.result c.from_residual.ensures.1 in
    rw (p.1, p.2)
    (stored-end a.status a.mem.now (view_by a.status a.map a.mem.now) (called a.a a.regs.now (flags_of a.status)) _
    (rw c.minus-sp.ensures at c.in_err-store.ensures))

pub returns : goal.returns
unfolding called
returns c =
    let a = c.args in
    rw c.minus-sp.ensures
    (rw same_status
    at (stored-end a.status a.mem.now (view_by a.status a.map a.mem.now) (called a.a a.regs.now (flags_of a.status)) _
    (rw c.minus-sp.ensures at c.in_ok-store.ensures)))

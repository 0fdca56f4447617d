-- `push` is right: the row of words goes to the addresses from SP lowered by 60 on, and a store
-- that ends gives the command's end.
use Rattle.std.proofs.lemmas.Result.{err_from_is_err_and}
use Rattle.machine.specs.State.{reg, flags_of}
use Rattle.machine.specs.Map.{view_by, writes_from}
use Rattle.machine.specs.Words.{lowered, bytes_of_words}
use lib.ListN.{set}
use Rattle.stack.specs.Rows.{row_of}
use Rattle.results.proofs.Ends.{stored-end, same_status}
use Rattle.stack.proofs.Stack.{pushed_all}
use Rattle.stack.proofs.push.Goals as goal

pub returns-in_err-push_all : goal.returns-in_err-push_all
returns-in_err-push_all c =
    let a = c.args in
    let p = err_from_is_err_and c.from_residual.result c.from_residual.ensures.1 in
    rw (p.1, p.2, pushed_all (reg a.regs.now 14) a.regs.now (flags_of a.status))
    (stored-end a.status a.mem.now (view_by a.status a.map a.mem.now) _ _
    (rw c.minus-low.ensures at c.in_err-push_all.ensures))

pub returns : goal.returns
returns c =
    let a = c.args in
    rw (c.minus-low.ensures, pushed_all (reg a.regs.now 14) a.regs.now (flags_of a.status))
    (rw same_status
    at (stored-end a.status a.mem.now (view_by a.status a.map a.mem.now)
    (record {
      registers = set a.regs.now 14 (lowered (reg a.regs.now 14) 60);
      flags = flags_of a.status;
      writes = writes_from (lowered (reg a.regs.now 14) 60) (bytes_of_words (row_of a.regs.now));
    }) _
    (rw c.minus-low.ensures at c.in_ok-push_all.ensures)))

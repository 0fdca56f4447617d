-- `put` is right for each target: a register keeps its rest, and a store that ends gives the
-- command's end.
use Rattle.std.proofs.lemmas.Result.{err_from_is_err_and}
use Rattle.machine.specs.declared.Target.TheVariants.{Memory}
use Rattle.machine.specs.Map.{view_by, located, commit}
use Rattle.machine.specs.Commands.{stored}
use Rattle.machine.specs.Words.{length_of}
use Rattle.results.proofs.Ends.{stored-end}
use Rattle.results.proofs.put.Goals as goal
use Rattle.results.proofs.put.Goals.{in-Nowhere, in-Register, in-Memory+in_ok-store-in-Memory}

pub returns-in_err-store-in-Memory : goal.returns-in_err-store-in-Memory
unfolding stored
returns-in_err-store-in-Memory c =
    let a = c.args in
    let p = err_from_is_err_and c.from_residual.result c.from_residual.ensures.1 in
    rw (p.1, p.2, c.in-Memory.is)
    (stored-end a.status a.mem.now (view_by a.status a.map a.mem.now)
    (stored (length_of a.size) a.x (Memory c.in-Memory.a) a.regs.now) _ c.in_err-store-in-Memory.ensures)

pub returns : goal.returns
unfolding stored located commit
returns c =
    let a = c.args in
    rw c.with_flags.ensures
    (elim c.match-target.branch [
      | in-Nowhere w ↦ rw (w.in-Nowhere.is, w.regs-is, w.mem-is)
      | in-Register w ↦ rw (w.in-Register.is, w.regs-is, w.mem-is, w.kept_rest.ensures)
      | in-Memory+in_ok-store-in-Memory w ↦
          rw (w.in-Memory.is, w.regs-is, w.mem-is)
          (stored-end a.status a.mem.now (view_by a.status a.map a.mem.now)
          (stored (length_of a.size) a.x (Memory w.in-Memory.a) a.regs.now) _ w.in_ok-store-in-Memory.ensures)
    ])

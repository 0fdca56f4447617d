-- `exec` is right: the invariant: the commands that were counted, in a row from the first
-- registers, status and memory on, ended quietly with the present ones, and after none of them the
-- next was at a watched address.
use Prim.Native.Nat.{◌+◌}
use Rattle.execution.specs.Rows.{Passed}
use Rattle.execution.proofs.Rows.{Quiet}
use Rattle.execution.proofs.exec.Given as goal

abbrev pub invariant-loop-count : goal.invariant-loop-count
invariant-loop-count l =
    Quiet l.initial.now l.map l.initial.regs l.initial.mem l.count l.regs l.now l.mem × Passed l.watched (l.count + 1) l.initial.now l.map l.initial.regs l.initial.mem

-- `ret` is right: the word at SP goes to R15 and SP is raised; where its read alarms, so does the
-- command.
use Rattle.machine.specs.Map.{located, commit}
use Rattle.machine.specs.Commands.{returned}
use Rattle.reads.proofs.Reading.{read-virtual}
use Rattle.results.proofs.Ends.{same_status}
use Rattle.stack.proofs.ret.Goals as goal

pub returns : goal.returns
unfolding returned located commit
returns c =
    rw (
      read-virtual,
      ← c.in_ok-regs.ensures,
      same_status,
      c.plus.ensures,
    )

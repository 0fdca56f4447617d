-- `stop` is right: only the mark changes.
use Rattle.machine.specs.Steps.{stop}
use Rattle.entry.proofs.stop.Goals as goal

pub returns : goal.returns
unfolding stop
returns c = rw c.with-desk.ensures

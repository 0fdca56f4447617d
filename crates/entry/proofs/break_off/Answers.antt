-- `break_off` is right: the status tells the mode.
use borrow.Author.Tests.{le-ltb}
use Rattle.machine.specs.Steps.{stop}
use Rattle.machine.specs.Map.{commit}
use Rattle.entry.proofs.break_off.Goals as goal

pub returns : goal.returns
unfolding stop commit
returns c = rw (le-ltb _ _ c.if-d-lt2147483648.false, c.stop_for.ensures)

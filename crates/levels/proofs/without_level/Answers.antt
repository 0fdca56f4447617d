-- `without_level` is right: the level is in the set, so its bit can be taken off.
use borrow.Author.Rules.{rules}
use Rattle.machine.specs.State.{without_level}
use Rattle.levels.proofs.without_level.Goals as goal

pub returns : goal.returns
unfolding without_level
returns c = search rules

-- `with_flags` is right: it computes what `with_flags` says, and that fits.
use borrow.Author.Rules.{rules}
use Rattle.machine.specs.State.{with_flags}
use Rattle.results.proofs.with_flags.Goals as goal

pub returns : goal.returns
unfolding with_flags
returns c = search rules

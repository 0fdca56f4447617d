-- `complement` is right: of 256 ^ L - 1 the last L bytes are taken away, as the definition says.
use borrow.Author.Rules.{rules}
use Rattle.machine.specs.Integers.{complement}
use Rattle.integers.proofs.complement.Goals as goal

pub returns : goal.returns
unfolding complement
returns c = search rules

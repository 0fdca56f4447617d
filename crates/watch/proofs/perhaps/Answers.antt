-- `perhaps` is right: a shift by k divides by 2 ^ k, so the lowest bit left is bit k.
use borrow.Author.Rules.{rules}
use Rattle.watch.specs.Addresses.{passes}
use Rattle.watch.proofs.perhaps.Goals as goal

pub returns : goal.returns
unfolding passes
returns c = search rules

-- Each field is read at its place.
use borrow.Author.Rules.{rules}
use Rattle.layout.specs.Layout.{unpacked}
use Rattle.layout.proofs.unpack.Goals as goal

pub returns : goal.returns
unfolding unpacked
returns c = search rules

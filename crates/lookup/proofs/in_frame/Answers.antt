-- `in_frame` is right by the definition; a frame number below 32768 keeps the sum small.
use borrow.Author.Rules.{rules}
use Rattle.machine.specs.Map.{in_frame}
use Rattle.lookup.proofs.in_frame.Goals as goal

pub returns : goal.returns
unfolding in_frame
returns c = search rules

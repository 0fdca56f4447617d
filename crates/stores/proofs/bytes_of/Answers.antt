-- `bytes_of` is right: the bytes are laid from the start of the row.
use Rattle.std.proofs.Common.{arith}
use Rattle.machine.proofs.Blocks.{bytes_first}
use Rattle.words.proofs.Values.{length_bounds}
use Rattle.stores.proofs.bytes_of.Goals as goal

pub returns : goal.returns
returns c = rw c.value_to.ensures (bytes_first _ _ _ (omega (arith, length_bounds c.args.size)))

-- The bytes are unpacked for the run, and its desk is packed; the steps and R15 are the reply's.
use Rattle.std.proofs.Common.{rules}
use Rattle.midesk.specs.Unplaced.{bytes_left, run_bytes_of}
use Rattle.midesk.proofs.run_bytes.Goals as goal

pub returns : goal.returns
unfolding run_bytes_of bytes_left
returns c = search rules

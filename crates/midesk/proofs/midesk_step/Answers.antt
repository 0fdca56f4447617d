-- The bytes are unpacked for the call, and its desk is packed.
use Rattle.std.proofs.Common.{rules}
use Rattle.midesk.specs.Exports.{step_left, step_call}
use Rattle.midesk.proofs.midesk_step.Goals as goal

pub returns : goal.returns
unfolding step_call step_left
returns c = search rules

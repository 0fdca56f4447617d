-- The call is that of `joint`, and its answer becomes a number.
use Rattle.joint.specs.Joint.{joint_refusal_number}
use Rattle.midesk.specs.Exports.{load_both_left, load_both_call}
use Rattle.midesk.proofs.Numbers.{number_told}
use Rattle.midesk.proofs.midesk_load_both.Goals as goal

pub returns : goal.returns
unfolding load_both_call load_both_left
returns c = rw (number_told joint_refusal_number _ _ c.answer_number.ensures, ← c.load_both.ensures)

-- The call is that of `load`, and its answer becomes a number.
use Rattle.lists.specs.Refusals.{load_refusal_number}
use Rattle.midesk.specs.Exports.{load_left, load_call}
use Rattle.midesk.proofs.Numbers.{number_told}
use Rattle.midesk.proofs.midesk_load.Goals as goal

pub returns : goal.returns
unfolding load_call load_left
returns c = rw (number_told load_refusal_number _ _ c.answer_number.ensures, ← c.load.ensures)

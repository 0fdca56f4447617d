-- The desk of the reply is packed; its answer's number is told.
use Rattle.machine.specs.Calls.{refusal_number}
use Rattle.midesk.specs.Exports.{replied_of, fresh_call}
use Rattle.midesk.proofs.Numbers.{number_told}
use Rattle.midesk.proofs.midesk_fresh.Goals as goal

pub returns : goal.returns
unfolding fresh_call replied_of
returns c =
    rw (number_told refusal_number _ _ c.answer_number.ensures, c.pack.ensures, ← c.fresh-r.ensures)

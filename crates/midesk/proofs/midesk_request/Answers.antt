-- The bytes are unpacked for the call, and its desk is packed.
use Rattle.machine.specs.Calls.{refusal_number}
use Rattle.midesk.specs.Exports.{replied_of, request_call}
use Rattle.midesk.proofs.Numbers.{number_told}
use Rattle.midesk.proofs.midesk_request.Goals as goal

pub returns : goal.returns
unfolding request_call replied_of
returns c =
    rw (
      number_told refusal_number _ _ c.answer_number.ensures,
      c.pack.ensures,
      ← c.unpack.ensures,
      ← c.request-r.ensures,
    )

-- The bytes are unpacked for the call, and its desk is packed; the steps are the reply's.
use Rattle.machine.specs.Calls.{refusal_number}
use Rattle.midesk.specs.Exports.{run_left, run_call}
use Rattle.midesk.proofs.Numbers.{number_told}
use Rattle.midesk.proofs.midesk_run.Goals as goal

pub returns : goal.returns
unfolding run_call run_left
returns c =
    rw (
      number_told refusal_number _ _ c.answer_number.ensures,
      c.pack.ensures,
      ← c.unpack.ensures,
      ← c.run-r.ensures,
    )

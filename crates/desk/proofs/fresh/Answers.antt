-- The blocks' answer decides: with a refusal the all-zero desk, else the fresh one.
use Rattle.machine.specs.Calls.{fresh_reply, fresh_of}
use Rattle.desk.proofs.fresh.Goals as goal

pub returns-in-Ok : goal.returns-in-Ok
unfolding fresh_of fresh_reply
returns-in-Ok c = simp (c.fresh.ensures, ← c.in-Ok.ensures)

pub returns-in-Err : goal.returns-in-Err
unfolding fresh_of fresh_reply
returns-in-Err c = simp (c.zero.ensures, c.from.ensures, ← c.in-Err.ensures)

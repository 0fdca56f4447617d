-- The four callees' contracts compose, and `Composed` says what they come to together.
use Rattle.midesk.specs.Unplaced.{BytesLeft}
use Rattle.midesk.proofs.Composed.{composed}
use Rattle.midesk.proofs.midesk_run_to.Goals as goal

pub returns : goal.returns
returns c =
    let left : BytesLeft =
    record {
      unplaced = c.run_bytes-u.result;
      steps = c.run_bytes-u.new.steps;
      state = c.run_bytes-u.new.state;
      memory = c.run_bytes-u.new.mem;
    } in
    composed c.gather-a.result c.args.points.now c.args.n c.args.state.now c.args.mem.now left
    c.first_armed.result c.run_to_code.result c.gather-a.ensures c.run_bytes-u.ensures
    c.first_armed.ensures c.run_to_code.ensures

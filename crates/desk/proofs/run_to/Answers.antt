-- The five callees' contracts compose, and `Composed` says what they come to together.
use Rattle.desk.proofs.Composed.{run_to_is}
use Rattle.desk.proofs.run_to.Goals as goal

pub returns : goal.returns
returns c =
    run_to_is c.gather-a.result c.args.points.now c.gather-a.ensures c.args.n c.args.d c.args.mem.now
    c.run_armed-r.result c.run_armed-r.new.mem c.run_armed-r.ensures c.r15_after-r15.result c.r15_after-r15.ensures
    c.first_armed-found.result c.first_armed-found.ensures c.placed.result c.placed.ensures

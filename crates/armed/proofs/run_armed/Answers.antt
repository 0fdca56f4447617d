-- The refusals decide, and then the steps are made.
use Rattle.std.proofs.Common.{◌∙◌}
use Rattle.armed.proofs.Watched.{refused_armed, accepted_armed}
use Rattle.armed.proofs.run_armed.Goals as goal

pub returns-in-Ok : goal.returns-in-Ok
returns-in-Ok c =
    rw c.reply_of.ensures (c.steps_to.ensures ∙ accepted_armed c.args.a c.args.n c.args.d c.args.mem.now c.in-Ok.ensures)

pub returns-in-Err : goal.returns-in-Err
returns-in-Err c = refused_armed c.args.a c.args.n c.args.d c.args.mem.now c.in-Err.refusal c.in-Err.ensures

-- The refusals decide, and then the steps are made.
use Rattle.std.proofs.Common.{sym, ◌∙◌}
use Rattle.watch.proofs.Filters.{zero_covers_nothing}
use Rattle.desk.proofs.Refused.{refused_run, accepted_run}
use Rattle.desk.proofs.Unwatched.{unwatched}
use Rattle.desk.proofs.run.Goals as goal

pub steps-p-requires-clause-covers : goal.steps-p-requires-clause-covers
steps-p-requires-clause-covers c = zero_covers_nothing

pub returns-in-Ok : goal.returns-in-Ok
returns-in-Ok c =
    unwatched _ c.args.d _ _ _ _ _ c.steps-p.ensures.all ∙ accepted_run c.args.d _ _ (sym c.in-Ok.ensures)

pub returns-in-Err : goal.returns-in-Err
returns-in-Err c = refused_run c.args.d _ _ _ (sym c.in-Err.ensures)

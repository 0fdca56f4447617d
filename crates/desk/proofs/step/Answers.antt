-- The refusals decide, and then one step is made.
use Rattle.std.proofs.Common.{refl, sym, ◌∙◌}
use Rattle.watch.proofs.Filters.{zero_covers_nothing}
use Rattle.desk.proofs.Refused.{refused_step, accepted_step}
use Rattle.desk.proofs.step.Goals as goal

pub steps-p-requires-clause-covers : goal.steps-p-requires-clause-covers
steps-p-requires-clause-covers c = zero_covers_nothing

pub returns-in-Ok : goal.returns-in-Ok
returns-in-Ok c = c.steps-p.ensures.one refl ∙ accepted_step c.args.d _ (sym c.in-Ok.ensures)

pub returns-in-Err : goal.returns-in-Err
returns-in-Err c = refused_step c.args.d _ _ (sym c.in-Err.ensures)

-- Where there is no address, none is watched; else the whole array holds the same ones.
use Rattle.std.proofs.Common.{◌∙◌}
use Rattle.watch.proofs.Filters.{zero_covers_nothing}
use Rattle.armed.proofs.Watched.{same_steps}
use Rattle.armed.proofs.steps_to.Goals as goal

pub steps-requires-clause-covers : goal.steps-requires-clause-covers
steps-requires-clause-covers c = zero_covers_nothing

pub returns-then-count-eq0 : goal.returns-then-count-eq0
returns-then-count-eq0 c = rw c.if-count-eq0.true c.steps.ensures.all

pub returns : goal.returns
returns c = c.steps-2.ensures.all ∙ same_steps _ _ c.filled-all.ensures _ _ _ _

-- `fits` is right: no bytes are inside wherever the place is, and some are where the last of them is.
use mathlib.Core.Path.{sym, ◌∙◌}
use borrow.Author.Tests.{eq-eqb}
use Rattle.lists.proofs.Puts.{none_inside, some_inside}
use Rattle.lists.proofs.Command.fits.Goals as goal

pub returns-then-count-eq0 : goal.returns-then-count-eq0
returns-then-count-eq0 c =
    eq-eqb _ _ c.if-count-eq0.true ∙ sym (none_inside _ _ _ (sym c.count-count.ensures ∙ c.if-count-eq0.true))

pub returns-else-count-eq0 : goal.returns-else-count-eq0
returns-else-count-eq0 c =
    rw c.count-count.ensures
    (sym (some_inside _ _ _ (λ e. c.if-count-eq0.false (c.count-count.ensures ∙ e))))

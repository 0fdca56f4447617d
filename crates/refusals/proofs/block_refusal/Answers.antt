-- `block_refusal` is right: its tests are the definition's, in its order: the first that fails
-- answers, none accepts.
use Rattle.std.proofs.Common.{sym}
use Rattle.machine.specs.Calls.{first_refused, fresh_refusal}
use Rattle.refusals.proofs.block_refusal.Goals as goal

pub returns-then-not-length_allowed : goal.returns-then-not-length_allowed
unfolding fresh_refusal first_refused
returns-then-not-length_allowed c = simp (sym c.if-not-length_allowed.ensures)

pub returns-then-not-block_fits : goal.returns-then-not-block_fits
unfolding fresh_refusal first_refused
returns-then-not-block_fits c = simp (sym c.if-not-length_allowed.ensures, sym c.if-not-block_fits.ensures)

pub returns-then-not-block_fits-2 : goal.returns-then-not-block_fits-2
unfolding fresh_refusal first_refused
returns-then-not-block_fits-2 c =
    simp (sym c.if-not-length_allowed.ensures, sym c.if-not-block_fits.ensures, sym c.if-not-block_fits-2.ensures)

pub returns : goal.returns
unfolding fresh_refusal first_refused
returns c =
    simp (sym c.if-not-length_allowed.ensures, sym c.if-not-block_fits.ensures, sym c.if-not-block_fits-2.ensures)

-- `refusal` is right: the blocks' answer comes first; where it accepts, numbers 4, 5 and 7 follow,
-- as they are defined.
use Rattle.std.proofs.Common.{sym}
use Rattle.std.proofs.lemmas.Result.{err_from_is_err_and}
use Rattle.machine.specs.Calls.{first_refused, passes5}
use Rattle.machine.proofs.Refusals.{or_else, later_refusal, step_parts}
use Rattle.refusals.proofs.refusal.Goals as goal

pub returns-in_err-block_refusal : goal.returns-in_err-block_refusal
unfolding or_else
returns-in_err-block_refusal c =
    let p = err_from_is_err_and c.from_residual.result c.from_residual.ensures.1 in
    rw (p.1, p.2, step_parts c.args.d c.args.n) (simp (sym c.in_err-block_refusal.ensures))

pub returns-then-not-map_fits : goal.returns-then-not-map_fits
unfolding or_else later_refusal first_refused passes5
returns-then-not-map_fits c =
    rw (step_parts c.args.d c.args.n)
    (simp (sym c.in_ok-block_refusal.ensures, sym c.if-not-map_fits.ensures))

pub returns-then-not-state_valid : goal.returns-then-not-state_valid
unfolding or_else later_refusal first_refused passes5
returns-then-not-state_valid c =
    rw (step_parts c.args.d c.args.n)
    (simp (sym c.in_ok-block_refusal.ensures, sym c.if-not-map_fits.ensures, sym c.if-not-state_valid.ensures))

pub returns-in-Running : goal.returns-in-Running
unfolding or_else later_refusal first_refused passes5
returns-in-Running c =
    rw (step_parts c.args.d c.args.n)
    (simp (sym c.in_ok-block_refusal.ensures, sym c.if-not-map_fits.ensures, sym c.if-not-state_valid.ensures, c.in-Running.is))

pub returns-in-Stopped : goal.returns-in-Stopped
unfolding or_else later_refusal first_refused passes5
returns-in-Stopped c =
    rw (step_parts c.args.d c.args.n)
    (simp (sym c.in_ok-block_refusal.ensures, sym c.if-not-map_fits.ensures, sym c.if-not-state_valid.ensures, c.in-Stopped.is))

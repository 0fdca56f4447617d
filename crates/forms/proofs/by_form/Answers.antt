-- `by_form` is right: each arm is one form with its rule, and what keeps no rule falls through; one
-- wrap of an address serves for the wraps of its parts.
use Prim.Native.Nat.{◌<◌}
use mathlib.Core.Logic.{◌≢◌}
use mathlib.Core.Path.{◌∙◌}
use native.Mathlib.Omega.{arith}
use native.Mathlib.Nat.{add-zero, mod-mod, mod-add-mod, add-mod-mod}
use borrow.Author.Tests.{eq-eqb, ne_eqb, lt-leb}
use Rattle.std.proofs.lemmas.Result.{err_from_is_err_and}
use Rattle.machine.specs.Operands.{keeps_rules, by_form}
use Rattle.forms.proofs.by_form.Goals as goal

pub returns-in-0-clause-location : goal.returns-in-0-clause-location
unfolding keeps_rules by_form
returns-in-0-clause-location c = simp (c.in-0.is, c.if-x-eq0.true, c.if-y-eq0.true, c.address.ensures)

pub returns-in-1-clause-location : goal.returns-in-1-clause-location
unfolding keeps_rules by_form
returns-in-1-clause-location c = simp (c.in-1.is, c.if-x-eq0-2.true, c.if-y-eq0-2.true, c.if-fits.true, ← c.fits.ensures)

pub returns-in-2-clause-location : goal.returns-in-2-clause-location
unfolding keeps_rules by_form
returns-in-2-clause-location c = simp (c.in-2.is, eq-eqb _ _ c.if-y-eq0-3.true, c.if-z-eq0.true)

pub returns-in-3-clause-location : goal.returns-in-3-clause-location
unfolding keeps_rules by_form
returns-in-3-clause-location c = simp (c.in-3.is, eq-eqb _ _ c.if-y-eq0-4.true, ← c.plus.ensures)

pub returns-in-4-clause-location : goal.returns-in-4-clause-location
unfolding keeps_rules by_form
returns-in-4-clause-location c = simp (c.in-4.is, c.plus-a.ensures, c.scaled.ensures, c.plus-in-4.ensures, mod-add-mod, add-mod-mod)

pub returns-in_ok-behind-in-5-clause-location : goal.returns-in_ok-behind-in-5-clause-location
unfolding keeps_rules by_form
returns-in_ok-behind-in-5-clause-location c =
    simp (c.in-5.is, eq-eqb _ _ c.if-y-eq0-5.true, c.in_ok-behind-in-5.ensures.same, c.plus-in-5.ensures, add-zero)

pub returns-in_err-behind-in-5-clause-location : goal.returns-in_err-behind-in-5-clause-location
unfolding keeps_rules by_form
returns-in_err-behind-in-5-clause-location c =
    let p = err_from_is_err_and c.from_residual.result c.from_residual.ensures.1 in
    rw (p.1, p.2)
    (c.in_err-behind-in-5.ensures.same c.args.regs.now
    ∙ simp (c.in-5.is, eq-eqb _ _ c.if-y-eq0-5.true, c.plus-in-5.ensures, add-zero))

pub returns-in_ok-behind-in-6-clause-location : goal.returns-in_ok-behind-in-6-clause-location
unfolding keeps_rules by_form
returns-in_ok-behind-in-6-clause-location c =
    simp (c.in-6.is, c.in_ok-behind-in-6.ensures.same, c.scaled-in-6.ensures, c.plus-in-6.ensures, add-mod-mod)

pub returns-in_err-behind-in-6-clause-location : goal.returns-in_err-behind-in-6-clause-location
unfolding keeps_rules by_form
returns-in_err-behind-in-6-clause-location c =
    let p = err_from_is_err_and c.from_residual-in_err-behind-in-6.result c.from_residual-in_err-behind-in-6.ensures.1 in
    rw (p.1, p.2)
    (c.in_err-behind-in-6.ensures.same c.args.regs.now
    ∙ simp (c.in-6.is, c.scaled-in-6.ensures, c.plus-in-6.ensures, add-mod-mod))

pub returns-in-7-clause-location : goal.returns-in-7-clause-location
unfolding keeps_rules by_form
returns-in-7-clause-location c = simp (c.in-7.is, ← c.if-can_step.ensures, c.minus-a.ensures, mod-mod)

pub returns-in-8-clause-location : goal.returns-in-8-clause-location
unfolding keeps_rules by_form
returns-in-8-clause-location c = simp (c.in-8.is, ← c.if-can_step-2.ensures, c.address-in-8.ensures, c.plus-in-8.ensures)

pub returns-in_default-clause-location : goal.returns-in_default-clause-location
unfolding keeps_rules by_form
returns-in_default-clause-location c = simp (c.in-0.is, c.if-x-eq0.true, ne_eqb _ _ c.if-y-eq0.false)

pub returns-in_default-2-clause-location : goal.returns-in_default-2-clause-location
unfolding keeps_rules by_form
returns-in_default-2-clause-location c = simp (c.in-0.is, ne_eqb _ _ c.if-x-eq0.false)

pub returns-in_default-3-clause-location : goal.returns-in_default-3-clause-location
unfolding keeps_rules by_form
returns-in_default-3-clause-location c = simp (c.in-1.is, c.if-x-eq0-2.true, c.if-y-eq0-2.true, ← c.fits.ensures, c.if-fits.false)

pub returns-in_default-4-clause-location : goal.returns-in_default-4-clause-location
unfolding keeps_rules by_form
returns-in_default-4-clause-location c = simp (c.in-1.is, c.if-x-eq0-2.true, ne_eqb _ _ c.if-y-eq0-2.false)

pub returns-in_default-5-clause-location : goal.returns-in_default-5-clause-location
unfolding keeps_rules by_form
returns-in_default-5-clause-location c = simp (c.in-1.is, ne_eqb _ _ c.if-x-eq0-2.false)

pub returns-in_default-6-clause-location : goal.returns-in_default-6-clause-location
unfolding keeps_rules by_form
returns-in_default-6-clause-location c = simp (c.in-2.is, c.if-y-eq0-3.true, ne_eqb _ _ c.if-z-eq0.false)

pub returns-in_default-7-clause-location : goal.returns-in_default-7-clause-location
unfolding keeps_rules by_form
returns-in_default-7-clause-location c = simp (c.in-2.is, ne_eqb _ _ c.if-y-eq0-3.false)

pub returns-in_default-8-clause-location : goal.returns-in_default-8-clause-location
unfolding keeps_rules by_form
returns-in_default-8-clause-location c = simp (c.in-3.is, ne_eqb _ _ c.if-y-eq0-4.false)

pub returns-in_default-9-clause-location : goal.returns-in_default-9-clause-location
unfolding keeps_rules by_form
returns-in_default-9-clause-location c = simp (c.in-5.is, ne_eqb _ _ c.if-y-eq0-5.false)

pub returns-in_default-10-clause-location : goal.returns-in_default-10-clause-location
unfolding keeps_rules by_form
returns-in_default-10-clause-location c = simp (c.in-7.is, ← c.if-can_step.ensures)

pub returns-in_default-11-clause-location : goal.returns-in_default-11-clause-location
unfolding keeps_rules by_form
returns-in_default-11-clause-location c = simp (c.in-8.is, ← c.if-can_step-2.ensures)

pub returns-in_default-12-clause-location : goal.returns-in_default-12-clause-location
unfolding keeps_rules by_form
returns-in_default-12-clause-location c =
    let p0 : c.args.fields.form ≢ 0 = omega arith in
    let p1 : c.args.fields.form ≢ 1 = omega arith in
    let p2 : c.args.fields.form ≢ 2 = omega arith in
    let p3 : c.args.fields.form ≢ 3 = omega arith in
    let p4 : c.args.fields.form ≢ 4 = omega arith in
    let p5 : c.args.fields.form ≢ 5 = omega arith in
    let p6 : c.args.fields.form ≢ 6 = omega arith in
    let above : 8 < c.args.fields.form = omega arith in
    simp (
      ne_eqb _ _ p0,
      ne_eqb _ _ p1,
      ne_eqb _ _ p2,
      ne_eqb _ _ p3,
      ne_eqb _ _ p4,
      ne_eqb _ _ p5,
      ne_eqb _ _ p6,
      lt-leb _ 8 above,
    )

-- `locate` is right: each arm is one form with its rule; a word's address wraps once.
use mathlib.Core.Path.{◌≡◌, refl}
use native.Mathlib.Omega.{arith}
use borrow.Author.Tests.{eq-eqb, lt-ltb}
use Rattle.machine.specs.Words.{wrap}
use Rattle.machine.specs.Operands.{keeps_rules, by_form}
use Rattle.sure.proofs.locate.Goals as goal

-- z fits a word
pub returns-in-0-clause-spot : goal.returns-in-0-clause-spot
unfolding keeps_rules by_form
returns-in-0-clause-spot c =
    let unwrapped : wrap c.args.fields.z ≡ c.args.fields.z = omega arith in
    record { same = λ v place L. simp (c.in-0.is, c.if-x-eq0.true, c.if-y-eq0.true, unwrapped) }

pub returns-in-1-clause-spot : goal.returns-in-1-clause-spot
unfolding keeps_rules by_form
returns-in-1-clause-spot c = record {
  same = λ v place L fits. simp (c.in-1.is, c.if-x-eq0-2.true, c.if-y-eq0-2.true, lt-ltb _ _ fits);
}

pub returns-in-2-clause-spot : goal.returns-in-2-clause-spot
unfolding keeps_rules by_form
returns-in-2-clause-spot c = (
  record { same = λ v place L. simp (c.in-2.is, eq-eqb _ _ c.if-y-eq0-3.true, c.if-z-eq0.true) },
  refl,
)

pub returns-in-3-clause-spot : goal.returns-in-3-clause-spot
unfolding keeps_rules by_form
returns-in-3-clause-spot c = record {
  same = λ v place L. simp (c.in-3.is, eq-eqb _ _ c.if-y-eq0-4.true, ← c.plus.ensures);
}

-- `locate` is right: each arm is one form with its rule; one wrap of an address serves for the wraps
-- of its parts.
use native.Mathlib.Nat.{add-zero, mod-mod, mod-add-mod, add-mod-mod}
use borrow.Author.Tests.{eq-eqb}
use Rattle.fetches.specs.Answers.{named}
use Rattle.machine.specs.Map.{view_by}
use Rattle.machine.specs.Operands.{keeps_rules, by_form}
use Rattle.allforms.proofs.Pointing.{pointed}
use Rattle.allforms.proofs.locate.Goals as goal

pub returns-in-4-clause-spot : goal.returns-in-4-clause-spot
unfolding keeps_rules by_form
returns-in-4-clause-spot c = record {
  same = λ place.
      simp (c.in-4.is, c.plus-a.ensures, c.plus.ensures, c.scaled.ensures, mod-add-mod, add-mod-mod);
}

pub returns-in-5-clause-spot : goal.returns-in-5-clause-spot
unfolding keeps_rules by_form
returns-in-5-clause-spot c =
    (pointed _ _ (view_by c.args.status c.args.map c.args.mem.now) 4 (named c.args.fields) c.args.regs.now
    (λ place. simp (c.in-5.is, eq-eqb _ _ c.if-y-eq0.true, c.plus-in-5.ensures, add-zero))
    c.behind.result c.behind.ensures).0

pub returns-in-6-clause-spot : goal.returns-in-6-clause-spot
unfolding keeps_rules by_form
returns-in-6-clause-spot c =
    (pointed _ _ (view_by c.args.status c.args.map c.args.mem.now) 4 (named c.args.fields) c.args.regs.now
    (λ place. simp (c.in-6.is, c.plus-in-6.ensures, c.scaled-in-6.ensures, add-mod-mod))
    c.behind-in-6.result c.behind-in-6.ensures).0

pub returns-in-7-clause-spot : goal.returns-in-7-clause-spot
unfolding keeps_rules by_form
returns-in-7-clause-spot c = record {
  same = λ place. simp (c.in-7.is, ← c.if-can_step.ensures, c.minus-a.ensures, mod-mod);
}

pub returns-in-8-clause-spot : goal.returns-in-8-clause-spot
unfolding keeps_rules by_form
returns-in-8-clause-spot c = record {
  same = λ place. simp (c.in-8.is, ← c.if-can_step-2.ensures, c.address.ensures, c.plus-in-8.ensures);
}

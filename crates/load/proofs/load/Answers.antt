-- `load` is right: the length is asked first, then the list is judged, and only what is not refused is
-- put.
use mathlib.Core.Path.{sym, ◌∙◌}
use native.Mathlib.Omega.{arith}
use Rattle.std.proofs.Common.{rules}
use Rattle.machine.proofs.Accepted.{length_small}
use Rattle.load.proofs.Outcomes.{refused_length, refused_list, list_loaded, sound}
use Rattle.load.proofs.load.Goals as goal

pub returns-then-not-length_allowed : goal.returns-then-not-length_allowed
returns-then-not-length_allowed c =
    refused_length _ _ _ (sym c.length_allowed.ensures ∙ c.if-not-length_allowed.true)

pub judge-requires : goal.judge-requires
judge-requires c =
    omega (arith, length_small _ (sym c.length_allowed.ensures ∙ c.if-not-length_allowed.false))

pub returns-in_err-judge : goal.returns-in_err-judge
returns-in_err-judge c =
    let e = refused_list _ _ _ (sym c.length_allowed.ensures ∙ c.if-not-length_allowed.false) (sym c.in_err-judge.ensures) in
    search (rules, e)

pub put_all-requires : goal.put_all-requires
put_all-requires c =
    sound _ _ _ (sym c.length_allowed.ensures ∙ c.if-not-length_allowed.false) (sym c.in_ok-judge.ensures)

pub returns : goal.returns
returns c =
    rw c.put_all.ensures
    (list_loaded _ _ _ (sym c.length_allowed.ensures ∙ c.if-not-length_allowed.false) (sym c.in_ok-judge.ensures))

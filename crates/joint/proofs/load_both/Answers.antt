-- `load_both` is right: the length is asked first, then each list is judged, then the scratch is asked and
-- the clash; the lists are put, one after the other, only where they agree.
use mathlib.Core.Path.{sym, ◌∙◌, ap}
use borrow.Author.Tests.{not-true, not-false}
use lib.ListN.{length}
use lib.Seq.{length-take-le}
use native.Mathlib.Omega.{arith}
use Rattle.std.proofs.lemmas.Result.{err_from_is_err_and}
use Rattle.machine.proofs.Accepted.{length_small}
use Rattle.machine.proofs.Writes.{commit-length}
use Rattle.lists.specs.Lists.{puts_of}
use Rattle.lists.specs.Refusals.{desk_pieces}
use Rattle.lists.proofs.Puts.{commit_append}
use Rattle.load.proofs.Outcomes.{as_long, sound}
use Rattle.joint.proofs.Outcomes.{refused_length, refused_first, refused_second, too_short, clashing, agreeing}
use Rattle.joint.proofs.load_both.Goals as goal

pub returns-then-not-length_allowed : goal.returns-then-not-length_allowed
returns-then-not-length_allowed c =
    refused_length _ _ _ _ (sym c.length_allowed.ensures ∙ c.if-not-length_allowed.true)

pub judge-requires : goal.judge-requires
judge-requires c =
    omega (arith, length_small _ (sym c.length_allowed.ensures ∙ c.if-not-length_allowed.false))

pub judge-requires-2 : goal.judge-requires-2
judge-requires-2 c =
    omega (arith, length_small _ (sym c.length_allowed.ensures ∙ c.if-not-length_allowed.false))

pub returns-in_err-judge : goal.returns-in_err-judge
returns-in_err-judge c =
    let p = err_from_is_err_and c.from_residual.result c.from_residual.ensures.1 in
    rw (p.1, p.2)
    (refused_first _ _ _ _ (sym c.length_allowed.ensures ∙ c.if-not-length_allowed.false) (sym c.in_err-judge.ensures))

pub returns-in_err-judge-2 : goal.returns-in_err-judge-2
returns-in_err-judge-2 c =
    let end = c.from_residual-in_err-judge-2 in
    let p = err_from_is_err_and end.result end.ensures.1 in
    rw (p.1, p.2)
    (refused_second _ _ _ _ (sym c.length_allowed.ensures ∙ c.if-not-length_allowed.false) (sym c.in_ok-judge.ensures)
    (sym c.in_err-judge-2.ensures))

pub returns-then-scratch-n : goal.returns-then-scratch-n
returns-then-scratch-n c =
    too_short _ _ _ _ (sym c.length_allowed.ensures ∙ c.if-not-length_allowed.false) (sym c.in_ok-judge.ensures)
    (sym c.in_ok-judge-2.ensures) c.if-scratch-n.true

pub found-requires-clause-sound : goal.found-requires-clause-sound
found-requires-clause-sound c =
    as_long
    (sound desk_pieces c.args.mem.now _ (sym c.length_allowed.ensures ∙ c.if-not-length_allowed.false) (sym c.in_ok-judge.ensures))
    (length-take-le _ c.args.scratch.now c.if-scratch-n.false)

pub found-requires-clause-sound_2 : goal.found-requires-clause-sound_2
found-requires-clause-sound_2 c =
    as_long
    (sound desk_pieces c.args.mem.now _ (sym c.length_allowed.ensures ∙ c.if-not-length_allowed.false) (sym c.in_ok-judge-2.ensures))
    (length-take-le _ c.args.scratch.now c.if-scratch-n.false)

pub returns-then-found : goal.returns-then-found
returns-then-found c =
    rw c.found.ensures.zeros
    (clashing _ _ _ _ (sym c.length_allowed.ensures ∙ c.if-not-length_allowed.false) (sym c.in_ok-judge.ensures)
    (sym c.in_ok-judge-2.ensures) c.if-scratch-n.false (not-true _ (sym c.found.ensures.answer ∙ c.if-found.true)))

pub put_all-requires : goal.put_all-requires
put_all-requires c =
    sound desk_pieces _ _ (sym c.length_allowed.ensures ∙ c.if-not-length_allowed.false) (sym c.in_ok-judge.ensures)

pub put_all-requires-2 : goal.put_all-requires-2
put_all-requires-2 c =
    as_long
    (sound desk_pieces c.args.mem.now _ (sym c.length_allowed.ensures ∙ c.if-not-length_allowed.false) (sym c.in_ok-judge-2.ensures))
    (ap length c.put_all.ensures ∙ commit-length _ _)

pub returns : goal.returns
returns c =
    rw (c.put_all-2.ensures, c.put_all.ensures, ← commit_append (puts_of c.args.first.now), c.found.ensures.zeros)
    (agreeing _ _ _ _ (sym c.length_allowed.ensures ∙ c.if-not-length_allowed.false) (sym c.in_ok-judge.ensures)
    (sym c.in_ok-judge-2.ensures) c.if-scratch-n.false (not-false _ (sym c.found.ensures.answer ∙ c.if-found.false)))

use Prim.Native.Nat.{◌+◌}
use mathlib.Core.Path.{◌≡◌, sym, ◌∙◌}
use native.Mathlib.Omega.{arith}
use lib.ListN.{length}
use Rattle.std.proofs.Common.{rules}
use Rattle.lists.proofs.Reading.{width_positive, next_inside}
use Rattle.lists.proofs.Judging.{judged_all, judged_pieces, judged_last, judged_early_end}
use Rattle.lists.proofs.Judging.{judged_unreadable}
use Rattle.lists.proofs.Judging.{judged_fitting, judged_outside, pieces_width}
use Rattle.lists.proofs.Puts.{place_small}
use Rattle.lists.proofs.judge.Goals as goal

pub loop-c-init : goal.loop-c-init
loop-c-init c = (omega arith, omega arith, omega arith, judged_all _ _ _)

pub place_after-place-requires : goal.place_after-place-requires
place_after-place-requires c =
    place_small _ _ _ c.requires c.loop-c.invariant.2 (sym c.fits.ensures ∙ c.if-fits.true)

pub loop-c-smaller-then-fits : goal.loop-c-smaller-then-fits
loop-c-smaller-then-fits c =
    let here = rw c.in-Some.is at (sym c.in_ok-c.ensures) in
    let width = c.width-at.ensures in
    omega (arith, next_inside _ _ _ here, width_positive c.in-Some.c, width)

pub loop-c-preserved-then-fits : goal.loop-c-preserved-then-fits
loop-c-preserved-then-fits c =
    let turn = c.loop-c in
    let command = c.in-Some.c in
    let here = rw c.in-Some.is at (sym c.in_ok-c.ensures) in
    let width = c.width-at.ensures in
    let count = c.pieces-pieces.ensures in
    let fits = sym c.fits.ensures ∙ c.if-fits.true in (
      omega (arith, next_inside _ _ _ here, width),
      omega (arith, pieces_width command, width, count),
      c.place_after-place.ensures.small,
      rw (c.place_after-place.ensures.value, width, count)
          (sym (judged_fitting _ _ _ _ _ _ command here _ fits)
          ∙ turn.invariant.3),
    )

pub loop-c-smaller : goal.loop-c-smaller
loop-c-smaller c =
    let here = rw c.in-Some.is at (sym c.in_ok-c.ensures) in
    let width = c.width-at.ensures in
    omega (arith, next_inside _ _ _ here, width_positive c.in-Some.c, width)

pub loop-c-preserved : goal.loop-c-preserved
loop-c-preserved c =
    let turn = c.loop-c in
    let command = c.in-Some.c in
    let here = rw c.in-Some.is at (sym c.in_ok-c.ensures) in
    let width = c.width-at.ensures in
    let count = c.pieces-pieces.ensures in
    let fits = sym c.fits.ensures ∙ c.if-fits.false in (
      omega (arith, next_inside _ _ _ here, width),
      omega (arith, pieces_width command, width, count),
      turn.invariant.2,
      rw (width, count)
          (sym (judged_outside _ _ _ _ _ _ command here _ fits) ∙ turn.invariant.3),
    )

pub returns-in_err-c : goal.returns-in_err-c
returns-in_err-c c =
    let turn = c.loop-c in
    let e = judged_unreadable c.args.limit c.args.n turn.place.0 turn.pieces _ _ turn.inside _ (sym c.in_err-c.ensures) in
    search (rules, e)

pub returns-then-list-at-ne1 : goal.returns-then-list-at-ne1
returns-then-list-at-ne1 c =
    let turn = c.loop-c in
    let here = rw c.in_default.is at (sym c.in_ok-c.ensures) in
    judged_early_end _ _ _ _ _ _ _ here (λ e. omega arith) ∙ turn.invariant.3

pub returns-then-limit-pieces : goal.returns-then-limit-pieces
returns-then-limit-pieces c =
    let turn = c.loop-c in
    let here = rw c.in_default.is at (sym c.in_ok-c.ensures) in
    let last : turn.at + 1 ≡ length c.args.list.now = omega arith in
    judged_pieces _ _ _ _ _ _ here last _ c.if-limit-pieces.true ∙ turn.invariant.3

pub returns-then-not-inside : goal.returns-then-not-inside
returns-then-not-inside c =
    let turn = c.loop-c in
    let here = rw c.in_default.is at (sym c.in_ok-c.ensures) in
    let last : turn.at + 1 ≡ length c.args.list.now = omega arith in
    simp c.if-not-inside.true at (judged_last _ _ _ _ _ _ here last turn.inside c.if-limit-pieces.false ∙ turn.invariant.3)

pub returns : goal.returns
returns c =
    let turn = c.loop-c in
    let here = rw c.in_default.is at (sym c.in_ok-c.ensures) in
    let last : turn.at + 1 ≡ length c.args.list.now = omega arith in
    simp c.if-not-inside.false at (judged_last _ _ _ _ _ _ here last turn.inside c.if-limit-pieces.false ∙ turn.invariant.3)

use mathlib.Core.Path.{◌≡◌, refl, sym, ◌∙◌, ap}
use native.Mathlib.Omega.{arith}
use lib.ListN.{length}
use Rattle.std.proofs.Common.{Ok, None, rules}
use lib.Seq.{length-sets}
use Rattle.lists.specs.Lists.{next_at}
use Rattle.lists.proofs.Reading.{width_positive, next_inside}
use Rattle.lists.proofs.Left.{all_sound, all_left, more_sound, end-left, unreadable_left}
use Rattle.load.proofs.Putting.{end_small, more_puttable, more_put, none_put}
use Rattle.load.proofs.put_all.Goals as goal

pub loop-c-init : goal.loop-c-init
loop-c-init c =
    let sound = c.requires in
    (omega arith, refl, omega arith, all_sound _ _ sound.whole sound.inside, rw all_left)

pub put-requires : goal.put-requires
put-requires c =
    let turn = c.loop-c in
    let command = c.in-Ok-Some.c in
    let here = rw c.in-Ok-Some.field-0-is at (sym c.in-Ok-Some.ensures) in
    more_puttable _ _ command here _ _ _ turn.invariant.1 turn.invariant.3

pub place_after-place-requires : goal.place_after-place-requires
place_after-place-requires c =
    let turn = c.loop-c in
    let command = c.in-Ok-Some.c in
    let here = rw c.in-Ok-Some.field-0-is at (sym c.in-Ok-Some.ensures) in
    let sound = c.requires in
    end_small {m = turn.mem} command (more_puttable _ _ command here _ _ _ turn.invariant.1 turn.invariant.3)
    (rw turn.invariant.1 sound.memory) turn.invariant.2

pub loop-c-smaller : goal.loop-c-smaller
loop-c-smaller c =
    let turn = c.loop-c in
    let command = c.in-Ok-Some.c in
    let here = rw c.in-Ok-Some.field-0-is at (sym c.in-Ok-Some.ensures) in
    omega (arith, width_positive command, next_inside _ _ _ here, c.width-at.ensures)

pub loop-c-preserved : goal.loop-c-preserved
loop-c-preserved c =
    let turn = c.loop-c in
    let command = c.in-Ok-Some.c in
    let here = rw c.in-Ok-Some.field-0-is at (sym c.in-Ok-Some.ensures) in
    let put = c.put.ensures in
    let next = c.place_after-place.ensures in (
      omega (arith, next_inside _ _ _ here, c.width-at.ensures),
      ap length put ∙ simp length-sets turn.invariant.1,
      next.small,
      rw (next.value, c.width-at.ensures) (more_sound _ _ command here _ _ turn.invariant.3),
      rw (next.value, put, c.width-at.ensures) (sym (more_put _ _ command here _ _ _ turn.invariant.3) ∙ turn.invariant.4),
    )

pub returns-in_default : goal.returns-in_default
returns-in_default c =
    let turn = c.loop-c in
    let here : next_at c.args.list.now turn.at ≡ Ok None = search rules in
    sym (none_put (end-left _ _ _ here) _) ∙ turn.invariant.4

pub returns-in_default-2 : goal.returns-in_default-2
returns-in_default-2 c =
    let turn = c.loop-c in
    sym (none_put (unreadable_left _ _ _ _ (sym c.next_at.ensures ∙ c.in_default.is)) _) ∙ turn.invariant.4

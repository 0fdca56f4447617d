use Rattle.std.proofs.Common.{◌≡◌, ◌+◌, refl, ap, ◌∙◌, length, length-append, arith}
use mathlib.Core.Bool.{or-false}
use Rattle.watch.proofs.Parts.{none_among, known_on}
use Rattle.watch.proofs.among.Goals as goal

pub loop-sixteen-init : goal.loop-sixteen-init
loop-sixteen-init c =
    let items = c.chunks_exact-sixteen-items.ensures in
    rw (c.into_iter-sixteen-iterator.ensures.into_iter_gives, items.size, items.rest)
    (record { size = refl; sixteens = c.requires; known = refl })

pub loop-sixteen-preserved : goal.loop-sixteen-preserved
loop-sixteen-preserved c =
    let turn = c.loop-sixteen.invariant in
    let steps = c.in-Some.ensures.steps in
    let sixteen = c.in-Some.sixteen.now in
    let left = c.next.new.self.rest.now in
    let whole : length c.loop-sixteen.sixteen-iterator.rest.now ≡ length sixteen + length left =
    ap length steps.1.0 ∙ length-append sixteen left in
    record {
      size = steps.0 ∙ turn.size;
      sixteens = omega (arith, steps.1.1, turn.size);
      known =
          rw c.among_sixteen-found.ensures
          (known_on c.args.r15 c.loop-sixteen.found sixteen left ∙ rw (← steps.1.0) turn.known);
    }

pub returns : goal.returns
returns c =
    let turn = c.loop-sixteen.invariant in
    let steps = c.in-None.ensures.steps in
    let none : length c.loop-sixteen.sixteen-iterator.rest.now ≡ 0 = omega (arith, steps.1.0) in
    rw (none_among c.args.r15 c.loop-sixteen.sixteen-iterator.rest.now none, or-false) at turn.known

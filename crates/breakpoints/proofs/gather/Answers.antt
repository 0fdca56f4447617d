-- Each turn gathers one more breakpoint of the list, as `with_one` does.
use Rattle.std.proofs.Common.{◌∷◌, suc, arith, refl, add-one}
use Rattle.breakpoints.proofs.Gathering.{SoFar, begins, goes_on, ends}
use Rattle.breakpoints.proofs.gather.Goals as goal

pub loop-p-init : goal.loop-p-init
loop-p-init c =
    rw (c.into_iter-p-iterator.ensures.into_iter_gives, c.take-p-items.ensures.count, c.take-p-items.ensures.source, c.iter.ensures.rest)
    (begins c.args.points.now)

pub loop-p-preserved : goal.loop-p-preserved
loop-p-preserved c =
    let before = c.loop-p in
    let n = c.next.new.self.n in
    let left = c.next.new.self.iter.rest.now in
    let p = c.in-Some.p.now in
    let s : SoFar c.args.points.now (suc n) (p ∷ left) before.a =
    rw (← add-one n, c.in-Some.ensures.steps.1, ← c.in-Some.ensures.steps.0) before.invariant in
    rw c.with_one-a.ensures (goes_on c.args.points.now n left p before.a s)

pub invariant_of-result : goal.invariant_of-result
invariant_of-result c = record { room = omega (arith, c.loop-p.invariant.room) }

pub returns : goal.returns
returns c = record {
  long = refl;
  few =
      ends c.args.points.now c.loop-p.p-iterator.n c.loop-p.p-iterator.iter.rest.now _
      (λ some. (c.in-None.ensures.steps some).0) c.loop-p.invariant;
}

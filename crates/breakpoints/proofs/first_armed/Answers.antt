-- Each turn passes a breakpoint that does not hold, or returns its place.
use Rattle.std.specs.Prelude.{Some}
use Rattle.std.proofs.Common.{◌≡◌, ◌+◌, ◌<◌, ℕ, true, false, List, length, take, min, get_or}
use Rattle.breakpoints.specs.declared.Breakpoint.{Breakpoint}
use Rattle.breakpoints.specs.Breakpoints.{most, unarmed, holds_at, first_armed}
use Rattle.breakpoints.proofs.Search.{Passed, starts, misses, finds, ends_without}
use Rattle.breakpoints.proofs.Looked.{below, same, tested, past}
use Rattle.breakpoints.proofs.first_armed.Goals as goal

module _ (r15 : ℕ) (ps : List Breakpoint) (i n : ℕ) (e : n ≡ min most (length ps)) (less : i < n)
    (passed : Passed r15 (take most ps) i) where
  hit : holds_at r15 (get_or ps i unarmed) ≡ true → Some i ≡ first_armed r15 (take most ps)
  hit h =
      finds r15 (take most ps) i (below ps i (tested ps i n e less)) (rw (same ps i (tested ps i n e less), h) tt) passed

  missed : holds_at r15 (get_or ps i unarmed) ≡ false → Passed r15 (take most ps) (i + 1)
  missed h =
      misses r15 (take most ps) i (below ps i (tested ps i n e less)) (rw (same ps i (tested ps i n e less), h) tt) passed

pub loop-i-init : goal.loop-i-init
loop-i-init c = starts c.args.r15 (take most c.args.points.now)

pub returns-then-p-r15 : goal.returns-then-p-r15
returns-then-p-r15 c =
    hit c.args.r15 c.args.points.now c.loop-i.i _ c.min-i-end.ensures c.loop-i-test.true c.loop-i.invariant
    c.if-p-r15.true

pub loop-i-preserved : goal.loop-i-preserved
loop-i-preserved c =
    missed c.args.r15 c.args.points.now c.loop-i.i _ c.min-i-end.ensures c.loop-i-test.true c.loop-i.invariant
    c.if-p-r15.false

pub returns : goal.returns
returns c =
    ends_without c.args.r15 (take most c.args.points.now) c.loop-i.i
    (past c.args.points.now c.loop-i.i _ c.min-i-end.ensures c.loop-i-test.false) c.loop-i.invariant

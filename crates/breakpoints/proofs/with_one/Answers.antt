-- It tests the breakpoint's switch and the room as its definition does.
use borrow.Author.Tests.{le-leb, lt-leb}
use Rattle.breakpoints.specs.Gathered.{with_one}
use Rattle.breakpoints.proofs.with_one.Goals as goal
use Rattle.breakpoints.proofs.with_one.Goals.{else-p-via-then-p+else-a-lt-MOST, else-p-via-else-p}

pub returns-then-a-lt-MOST : goal.returns-then-a-lt-MOST
unfolding with_one
returns-then-a-lt-MOST c = simp (c.if-p.true, lt-leb 64 c.args.a.count c.if-a-lt-MOST.true)

pub returns-else-p : goal.returns-else-p
unfolding with_one
returns-else-p c =
    elim c.else-p.branch [
      | else-p-via-then-p+else-a-lt-MOST w ↦ simp (w.if-p.true, le-leb 64 c.args.a.count w.if-a-lt-MOST.false)
      | else-p-via-else-p w ↦ simp (w.if-p.false)
    ]

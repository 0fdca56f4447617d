-- `combine` is right: two values of one kind by that kind's operation; of two kinds, the first.
use Rattle.floats.proofs.combine.Goals as goal

pub returns-in-Short-b : goal.returns-in-Short-b
returns-in-Short-b c =
    simp (c.short.ensures, c.in-Short.is, c.in-Short-b.is)

pub returns-in-Long-b : goal.returns-in-Long-b
returns-in-Long-b c = simp (c.in-Short.is, c.in-Long-b.is)

pub returns-in-Long-b-2 : goal.returns-in-Long-b-2
returns-in-Long-b-2 c =
    simp (c.long.ensures, c.in-Long.is, c.in-Long-b-2.is)

pub returns-in-Short-b-2 : goal.returns-in-Short-b-2
returns-in-Short-b-2 c = simp (c.in-Long.is, c.in-Short-b-2.is)

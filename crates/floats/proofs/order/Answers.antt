-- `order` is right: N and Z by comparison, and V where one of the two differs from itself, as a NaN
-- alone does.
use Rattle.machine.specs.Floats.{compared_floats}
use Rattle.floats.proofs.Patterns.{differs_if_nan}
use Rattle.floats.proofs.order.Goals as goal

pub returns : goal.returns
unfolding compared_floats
returns c =
    let start = c.args in
    rw (c.flags.ensures.value, differs_if_nan start.x, differs_if_nan start.y)

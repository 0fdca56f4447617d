-- `push_each` is right: the words fill the sixty bytes that are stored.
use Rattle.stack.proofs.Stack.{row_fills}
use Rattle.stack.proofs.push_each.Goals as goal

pub returns : goal.returns
returns c =
    rw (c.lay.ensures, row_fills) at c.store_each.ensures

use Rattle.watch.proofs.Filters.{zero_covers_nothing, covers_next}
use Rattle.watch.proofs.filter_of.Goals as goal

pub loop-a-init : goal.loop-a-init
loop-a-init c = zero_covers_nothing

pub loop-a-preserved : goal.loop-a-preserved
loop-a-preserved c =
    let turn = c.loop-a in
    rw c.with_bit-filter.ensures
    (covers_next turn.filter c.args.addresses.now turn.a-index c.loop-a-test.true turn.invariant)

-- before each address the filter covers those before it
use Rattle.std.proofs.Common.{take}
use Rattle.watch.specs.Addresses.{Covers}
use Rattle.watch.proofs.filter_of.Given as goal

abbrev pub invariant-loop-a : goal.invariant-loop-a
invariant-loop-a l = Covers l.filter (take l.a-index l.addresses)

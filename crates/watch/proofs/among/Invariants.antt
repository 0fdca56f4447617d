-- it knows whether the address is among those that the loop has passed
use Rattle.std.proofs.Common.{◌≡◌, ◌%◌, ◌||◌, length}
use Rattle.watch.specs.Addresses.{among}
use Rattle.watch.proofs.among.Given as goal

abbrev pub invariant-loop-sixteen : goal.invariant-loop-sixteen
invariant-loop-sixteen l = record {
  size : l.sixteen-iterator.size ≡ 16;
  sixteens : length l.sixteen-iterator.rest.now % 16 ≡ 0;
  known : (l.found || among l.r15 l.sixteen-iterator.rest.now) ≡ among l.r15 l.addresses;
}

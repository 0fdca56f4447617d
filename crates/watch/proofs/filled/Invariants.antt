-- before place i the first i addresses are the same set, and the first one again adds none
use Rattle.std.proofs.Common.{◌≡◌, length, take}
use Rattle.watch.specs.Addresses.{SameSet}
use Rattle.watch.proofs.filled.Given as goal

abbrev pub invariant-loop-i : goal.invariant-loop-i
invariant-loop-i l = record {
  places : length l.all ≡ 64;
  same : SameSet (take l.i l.all) (take l.count l.initial.all);
}

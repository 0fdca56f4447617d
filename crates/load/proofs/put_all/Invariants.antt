-- `put_all` is right: what is left of the list, put into the memory as it is, gives what the whole list
-- gives on the first one.
use Prim.Native.Nat.{◌-◌, ◌≤◌, ◌<◌}
use mathlib.Core.Path.{◌≡◌}
use mathlib.Core.Bool.{true}
use lib.ListN.{length}
use Rattle.machine.specs.Map.{commit}
use Rattle.lists.specs.Lists.{puts_of}
use Rattle.lists.proofs.Reading.{rest_from}
use Rattle.lists.proofs.Left.{sound_from, left_from}
use Rattle.load.proofs.put_all.Given as goal

abbrev pub invariant-loop-c : goal.invariant-loop-c
invariant-loop-c l =
    (l.at ≤ length l.list) × (length l.mem ≡ length l.initial.mem) × (l.place.0 < 0x1_0000_0000)
    × (sound_from (length l.initial.mem) l.place.0 (rest_from l.list l.at) ≡ true)
    × (commit (left_from l.list l.place.0 l.at) l.mem ≡ commit (puts_of l.list) l.initial.mem)

abbrev pub decreases-loop-c : goal.decreases-loop-c
decreases-loop-c l = length l.list - l.at

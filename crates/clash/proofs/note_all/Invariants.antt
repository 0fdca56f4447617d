-- `note_all` is right: what is left of the list, noted on the scratch as it is, gives what the whole list
-- gives on the first one.
use Prim.Native.Nat.{◌-◌, ◌≤◌, ◌<◌}
use mathlib.Core.Path.{◌≡◌}
use mathlib.Core.Bool.{true}
use lib.ListN.{length}
use Rattle.lists.specs.Lists.{puts_of}
use Rattle.lists.proofs.Reading.{rest_from}
use Rattle.lists.proofs.Left.{sound_from, left_from}
use Rattle.clash.specs.Notes.{noted}
use Rattle.clash.proofs.note_all.Given as goal

abbrev pub invariant-loop-c : goal.invariant-loop-c
invariant-loop-c l =
    (l.at ≤ length l.list) × (length l.scratch ≡ length l.initial.scratch) × (l.place.0 < 0x1_0000_0000)
    × (sound_from (length l.initial.scratch) l.place.0 (rest_from l.list l.at) ≡ true)
    × (noted l.half l.turn (left_from l.list l.place.0 l.at) l.scratch ≡ noted l.half l.turn (puts_of l.list) l.initial.scratch)

abbrev pub decreases-loop-c : goal.decreases-loop-c
decreases-loop-c l = length l.list - l.at

-- `note_copies` is right: before copy i, the copies that are left, noted on the scratch as it is, give what
-- all of them give on the first one.
use Prim.Native.Nat.{◌+◌}
use mathlib.Core.Path.{◌≡◌}
use lib.ListN.{replicate, drop}
use Rattle.machine.specs.Map.{real_writes_from}
use Rattle.clash.specs.Notes.{noted}
use Rattle.clash.proofs.note_copies.Given as goal

abbrev pub invariant-loop-i : goal.invariant-loop-i
invariant-loop-i l =
    noted l.half l.turn (real_writes_from (l.at + l.i) (drop l.i (replicate l.count l.byte))) l.scratch
    ≡ noted l.half l.turn (real_writes_from l.at (replicate l.count l.byte)) l.initial.scratch

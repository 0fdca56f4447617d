-- `note_bytes` is right: before byte i, the bytes that are left, noted on the scratch as it is, give what all
-- of them give on the first one.
use Prim.Native.Nat.{◌+◌}
use mathlib.Core.Path.{◌≡◌}
use lib.ListN.{drop}
use Rattle.machine.specs.Map.{real_writes_from}
use Rattle.clash.specs.Notes.{noted}
use Rattle.clash.proofs.note_bytes.Given as goal

abbrev pub invariant-loop-i : goal.invariant-loop-i
invariant-loop-i l =
    noted l.half l.turn (real_writes_from (l.at + l.i) (drop l.i l.bytes)) l.scratch
    ≡ noted l.half l.turn (real_writes_from l.at l.bytes) l.initial.scratch

-- `take_notes` is right: before note i those below it are cleared and looked at, the others as they were.
use mathlib.Core.Path.{◌≡◌}
use mathlib.Core.List.{◌++◌}
use lib.ListN.{replicate, drop}
use Rattle.clash.specs.Notes.{found_below}
use Rattle.clash.proofs.take_notes.Given as goal

abbrev pub invariant-loop-note : goal.invariant-loop-note
invariant-loop-note l =
    (l.scratch ≡ replicate l.note-index 0 ++ drop l.note-index l.initial.scratch)
    × (l.found ≡ found_below l.note-index l.initial.scratch)

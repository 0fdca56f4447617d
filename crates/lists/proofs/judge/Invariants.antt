-- `judge` is right: what is left of the list, judged from the place, the pieces so far and whether the
-- puts so far are inside, gives what the whole list gives.
use Prim.Native.Nat.{◌-◌, ◌≤◌, ◌<◌}
use mathlib.Core.Path.{◌≡◌}
use lib.ListN.{length}
use Rattle.lists.specs.Refusals.{list_refusal}
use Rattle.lists.proofs.Reading.{rest_from}
use Rattle.lists.proofs.Judging.{judged}
use Rattle.lists.proofs.judge.Given as goal

abbrev pub invariant-loop-c : goal.invariant-loop-c
invariant-loop-c l =
    (l.at ≤ length l.list) × (l.pieces ≤ l.at) × (l.place.0 < 0x1_0000_0000)
    × (judged l.limit l.n l.place.0 l.pieces l.inside (rest_from l.list l.at) ≡ list_refusal l.limit l.n l.list)

abbrev pub decreases-loop-c : goal.decreases-loop-c
decreases-loop-c l = length l.list - l.at

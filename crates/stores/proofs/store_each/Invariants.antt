-- `store_each` is right: the first loop finds a place for each byte or stops at the first alarm
-- with nothing written, and the second writes what is left to write.
use Rattle.std.proofs.Common.{◌≡◌, ℕ, ◌<◌, length, drop}
use Rattle.machine.specs.Map.{view_by, commit}
use Rattle.stores.proofs.Storing.{writes_to, Placed}
use Rattle.stores.proofs.store_each.Given as goal

abbrev pub invariant-loop-i : goal.invariant-loop-i
invariant-loop-i l =
    (length l.places ≡ 60) × ((k : ℕ) → k < l.i → Placed (view_by l.status l.map l.mem) l.mem l.x.0 l.places k)

abbrev pub invariant-loop-j : goal.invariant-loop-j
invariant-loop-j l =
    commit (writes_to l.j l.places (drop l.j l.bytes)) l.mem ≡ commit (writes_to 0 l.places l.bytes) l.initial.mem

-- `read_bytewise` is right: after i bytes the number so far is below 256 ^ i, and the read of the
-- rest from it is the read of all.
use Rattle.std.proofs.Common.{◌≡◌, ◌+◌, ◌-◌, ◌<◌}
use Rattle.machine.specs.Words.{span}
use Rattle.machine.specs.Map.{read_from, view_by}
use Rattle.reads.proofs.read_bytewise.Given as goal

abbrev pub invariant-loop-i : goal.invariant-loop-i
invariant-loop-i l =
    (l.acc < span l.i)
    × (read_from (view_by l.status l.map l.mem) l.why l.n l.x.0 0 ≡ read_from (view_by l.status l.map l.mem) l.why (l.n - l.i) (l.x.0 + l.i) l.acc)

-- `put_words` is right: before word i, what is left to write, on the bytes as they are, gives what
-- all of it gives on the first ones.
use Rattle.std.proofs.Common.{◌≡◌, ◌+◌, ◌*◌, ◌≤◌, length, drop}
use lib.Seq.{sets}
use Rattle.machine.specs.Words.{bytes_of_words}
use Rattle.words.proofs.put_words.Given as goal

abbrev pub invariant-loop-i : goal.invariant-loop-i
invariant-loop-i l =
    (l.i ≤ length l.words) × (length l.bytes ≡ length l.initial.bytes)
    × (sets l.bytes (l.at + 4 * l.i) (bytes_of_words (drop l.i l.words)) ≡ sets l.initial.bytes l.at (bytes_of_words l.words))

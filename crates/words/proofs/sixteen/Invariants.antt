-- `sixteen` is right: the first i words of the array are the first i words; each turn adds the next
-- of both.
use Rattle.std.proofs.Common.{◌≡◌, ◌≤◌, length, take}
use Rattle.machine.specs.Words.{words_at}
use Rattle.words.proofs.sixteen.Given as goal

abbrev pub invariant-loop-i : goal.invariant-loop-i
invariant-loop-i l = (l.i ≤ 16) × (length l.words ≡ 16) × (take l.i l.words ≡ words_at l.i l.bytes l.at)

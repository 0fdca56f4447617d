-- `fill` is right: before word i, what is left to lay, on the registers as they are, gives what all
-- of it gives on the first ones.
use Prim.Native.Nat.{ℕ, ◌-◌, ◌+◌, ◌*◌}
use mathlib.Core.Path.{◌≡◌}
use mathlib.Core.List.{[], ◌∷◌, ◌++◌}
use lib.Seq.{sets}
use Rattle.machine.specs.State.{Registers}
use Rattle.machine.specs.Words.{Memory, raised, word_at, words_at}
use Rattle.stack.proofs.fill.Given as goal

-- from turn i on: the words that are left laid into the registers, the last raised
abbrev pub laid_from : ℕ → Memory → ℕ → Registers → Registers
laid_from i m a r = sets r i (words_at (14 - i) m (a + 4 * i) ++ raised (word_at m (a + 56)) 4 ∷ [])

abbrev pub invariant-loop-i : goal.invariant-loop-i
invariant-loop-i l =
    laid_from l.i l.mem l.at l.regs ≡ sets l.initial.regs 0 (words_at 14 l.mem l.at ++ raised (word_at l.mem (l.at + 56)) 4 ∷ [])

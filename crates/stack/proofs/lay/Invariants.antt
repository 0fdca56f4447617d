-- `lay` is right: after i turns the first i registers are laid; SP, lowered, comes last.
use mathlib.Core.Path.{◌≡◌}
use lib.Seq.{sets}
use Rattle.machine.specs.Words.{bytes_of_words}
use Rattle.machine.specs.State.{registers_from}
use Rattle.stack.proofs.lay.Given as goal

abbrev pub invariant-loop-i : goal.invariant-loop-i
invariant-loop-i l = l.bytes ≡ sets l.initial.bytes l.at (bytes_of_words (registers_from l.i 0 l.regs))

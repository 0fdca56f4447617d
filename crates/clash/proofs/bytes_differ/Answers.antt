-- `bytes_differ` is right: two lists agree exactly where they agree in both halves.
use mathlib.Core.Path.{sym, ◌∙◌}
use Rattle.clash.proofs.Rounds.{differ_high, differ_low}
use Rattle.clash.proofs.bytes_differ.Goals as goal

pub returns-then-halves_differ-clause-answer : goal.returns-then-halves_differ-clause-answer
returns-then-halves_differ-clause-answer c =
    let high = c.halves_differ.ensures in
    c.if-halves_differ.true ∙ differ_high _ _ _ (sym high.answer ∙ c.if-halves_differ.true)

pub returns-else-halves_differ-clause-answer : goal.returns-else-halves_differ-clause-answer
returns-else-halves_differ-clause-answer c =
    let high = c.halves_differ.ensures in
    c.halves_differ-else-halves_differ.ensures.answer
    ∙ rw high.zeros (differ_low _ _ _ (sym high.answer ∙ c.if-halves_differ.false))

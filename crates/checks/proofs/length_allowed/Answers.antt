-- `length_allowed` is right: its three tests, joined, are the definition's.
use mathlib.Core.Logic.{⊎_elim}
use borrow.Author.Tests.{eq-eqb, ne_eqb, le-leb, lt-leb}
use Rattle.machine.specs.State.{allowed_length}
use Rattle.checks.proofs.length_allowed.Goals as goal
use Rattle.checks.proofs.length_allowed.Goals.{then-n-eq0, else-n-eq0}

pub returns-then-n-ge512 : goal.returns-then-n-ge512
unfolding allowed_length
returns-then-n-ge512 c = let h = c.if-n-ge512.true in simp (eq-eqb _ _ h.0, le-leb _ _ h.1)

pub returns-else-n-ge512 : goal.returns-else-n-ge512
unfolding allowed_length
returns-else-n-ge512 c = elim c.if-n-eq0.branch [
  | then-n-eq0 w ↦ ⊎_elim
      (λ h. simp (eq-eqb _ _ w.if-n-eq0.true, w.t-3-is, lt-leb _ _ h.1))
      (λ f. absurd (f w.if-n-eq0.true))
      c.if-n-ge512.either
  | else-n-eq0 w ↦ simp (ne_eqb _ _ w.if-n-eq0.false, w.t-3-is)
]

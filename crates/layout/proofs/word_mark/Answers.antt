-- One number is kept for a running desk.
use borrow.Author.Tests.{eq-eqb, ne_eqb}
use borrow.Author.Rules.{rules}
use Rattle.layout.specs.Layout.{mark_of}
use Rattle.layout.proofs.word_mark.Goals as goal

pub returns-then-w-eq-RUNS : goal.returns-then-w-eq-RUNS
unfolding mark_of
returns-then-w-eq-RUNS c = search (rules, eq-eqb)

pub returns-else-w-eq-RUNS : goal.returns-else-w-eq-RUNS
unfolding mark_of
returns-else-w-eq-RUNS c = search (rules, ne_eqb)

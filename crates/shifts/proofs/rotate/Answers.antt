-- `rotate` is right: the upper half of the word twice over, after n times to the left, is the word
-- rotated.
use borrow.Author.Rules.{rules}
use mathlib.Core.Path.{sym, ◌∙◌}
use Rattle.machine.proofs.Shifts.{rotated_is}
use Rattle.shifts.proofs.rotate.Goals as goal

pub returns : goal.returns
returns c = record {
  value = c.plain.ensures.value ∙ sym (rotated_is c.args.a c.args.b);
  small = search rules;
}

-- `shift_left` is right: the word by the definition, and V where the product does not fit.
use borrow.Author.Rules.{rules}
use Rattle.machine.specs.Integers.{shifted_left}
use Rattle.shifts.proofs.shift_left.Goals as goal

pub returns : goal.returns
unfolding shifted_left
returns c = record {
  value = simp (c.result.ensures.value, c.fits_left.ensures, c.left.ensures);
  small = search rules;
}

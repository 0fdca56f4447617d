-- `right` is right: 32 times or more to the right no bit is left.
use borrow.Author.Rules.{rules}
use native.Mathlib.Omega.{arith}
use mathlib.Core.Path.{refl, sym}
use lib.Pow.{shr_le}
use Rattle.machine.proofs.Magnitudes.{shift_right_all}
use Rattle.shifts.proofs.right.Goals as goal

pub returns-then-n-lt32 : goal.returns-then-n-lt32
returns-then-n-lt32 c = record {
  value = refl;
  small = shr_le c.args.x c.args.n;
}

pub returns-else-n-lt32 : goal.returns-else-n-lt32
returns-else-n-lt32 c = record {
  value = sym (shift_right_all 4 c.args.x c.args.n c.if-n-lt32.false (omega arith));
  small = search rules;
}

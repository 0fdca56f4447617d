-- `shift_right` is right: a word that is not negative goes to the right, and of a negative one its
-- complement.
use borrow.Author.Rules.{rules}
use native.Mathlib.Omega.{arith}
use mathlib.Core.Path.{◌≡◌, sym, ◌∙◌}
use mathlib.Core.Bool.{true, false}
use Rattle.machine.specs.Integers.{negative}
use Rattle.machine.proofs.Shifts.{shifted_right_is}
use Rattle.shifts.proofs.shift_right.Goals as goal

pub returns-then-is_negative : goal.returns-then-is_negative
returns-then-is_negative c = let n = c.args.n in
    let b = c.args.b in
    let below : negative 4 b ≡ true = sym c.is_negative.ensures ∙ c.if-is_negative.true in record {
      value = rw (c.plain.ensures.value, c.right.ensures.value, shifted_right_is n b (omega arith), below);
      small = search rules;
    }

pub returns : goal.returns
returns c = let n = c.args.n in
    let b = c.args.b in
    let above : negative 4 b ≡ false = sym c.is_negative.ensures ∙ c.if-is_negative.false in record {
      value = rw (c.plain-2.ensures.value, c.right-2.ensures.value, shifted_right_is n b (omega arith), above);
      small = search rules;
    }

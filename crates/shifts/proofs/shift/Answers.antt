-- `shift` is right: a count below half the span is not negative, and any other is 2 ^ 32 less.
use borrow.Author.Rules.{rules}
use native.Mathlib.Omega.{arith}
use Prim.Native.Nat.{ℕ}
use mathlib.Core.Path.{ap, sym, ◌∙◌}
use Rattle.machine.specs.Integers.{shifted_right}
use Rattle.machine.proofs.Shifts.{shifted-left, shifted_right_lem}
use Rattle.shifts.proofs.shift.Goals as goal

pub returns-then-a-lt2147483648 : goal.returns-then-a-lt2147483648
returns-then-a-lt2147483648 c = let same = shifted-left c.args.a c.args.b c.if-a-lt2147483648.true in record {
  value = c.shift_left.ensures.value ∙ sym same;
  small = search rules;
}

pub returns : goal.returns
returns c = record {
  value = c.shift_right.ensures.value
      ∙ ap (λ (n : ℕ). shifted_right n c.args.b) (omega arith)
      ∙ sym (shifted_right_lem c.args.a c.args.b c.if-a-lt2147483648.false (omega arith));
  small = search rules;
}

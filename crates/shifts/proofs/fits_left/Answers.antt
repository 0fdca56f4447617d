-- `fits_left` is right: by the laws on multiples of any width, at four bytes.
use Prim.Native.Nat.{◌≤◌, ◌<◌, ◌^◌}
use mathlib.Core.Path.{sym, ◌∙◌}
use native.Mathlib.Omega.{arith}
use borrow.Author.Tests.{leb-true, leb-false}
use lib.Pow.{pow_pos}
use Rattle.machine.specs.Integers.{half, negative, complement}
use Rattle.machine.proofs.Shifts.{multiple_low, multiple_high}
use Rattle.shifts.proofs.fits_left.Goals as goal

pub returns-then-is_negative : goal.returns-then-is_negative
unfolding negative complement
returns-then-is_negative c =
    let n = c.args.n in
    let b = c.args.b in
    let below : half 4 ≤ b = leb-true (half 4) b (sym c.is_negative.ensures ∙ c.if-is_negative.true) in
    rw c.right.ensures.value (sym (multiple_high 4 b (2 ^ n) (omega arith) (pow_pos n) (omega arith) below))

pub returns : goal.returns
unfolding negative
returns c =
    let n = c.args.n in
    let b = c.args.b in
    let above : b < half 4 = leb-false (half 4) b (sym c.is_negative.ensures ∙ c.if-is_negative.false) in
    rw c.right-2.ensures.value (sym (multiple_low 4 b (2 ^ n) (omega arith) (pow_pos n) above))

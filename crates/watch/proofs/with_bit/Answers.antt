-- `with_bit` is right: a bit that is set stays so; else it is added, which carries nothing over, so the sum fits.
use Prim.Native.Nat.{ℕ, ◌*◌, ◌%◌, ◌^◌, ◌<◌}
use mathlib.Core.Path.{◌≡◌, ◌∙◌}
use native.Mathlib.Nat.{one-mul}
use native.Mathlib.Omega.{arith}
use borrow.Author.Tests.{eq-eqb, ne_eqb}
use lib.Pow.{shl_exact}
use Rattle.machine.proofs.Levels.{level-fits}
use Rattle.watch.specs.Addresses.{with_bit}
use Rattle.watch.proofs.with_bit.Goals as goal

shifted : (k : ℕ) → k < 64 → (1 * 2 ^ k) % 2 ^ 64 ≡ 2 ^ k
shifted k h = shl_exact 1 k 64 (omega arith) (omega arith) ∙ one-mul _

pub returns-then-filter-bit-eq1 : goal.returns-then-filter-bit-eq1
unfolding with_bit
returns-then-filter-bit-eq1 c = simp (eq-eqb _ _ c.if-filter-bit-eq1.true)

pub overflow_add-result : goal.overflow_add-result
overflow_add-result c =
    let k = c.args.bit in
    omega (
      arith,
      shifted k c.requires,
      level-fits 64 k c.args.filter c.requires c.ranges.filter.fits c.if-filter-bit-eq1.false,
    )

pub returns : goal.returns
unfolding with_bit
returns c = simp (ne_eqb _ _ c.if-filter-bit-eq1.false, shifted c.args.bit c.requires)

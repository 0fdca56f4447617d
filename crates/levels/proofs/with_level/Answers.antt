-- `with_level` is right: a pending level stays so; else its bit is added, which carries nothing
-- over, so the sum fits.
use Prim.Native.Nat.{ℕ, ◌+◌, ◌*◌, ◌/◌, ◌%◌, ◌^◌, ◌≤◌, ◌<◌}
use mathlib.Core.Path.{◌≡◌, ◌∙◌}
use native.Mathlib.Nat.{one-mul}
use native.Mathlib.Omega.{arith}
use borrow.Author.Tests.{eq-eqb, ne_eqb}
use lib.Pow.{shl_exact}
use Rattle.machine.specs.State.{is_pending, with_level}
use Rattle.machine.proofs.Levels.{level-fits}
use Rattle.levels.proofs.with_level.Goals as goal

shifted : (k : ℕ) → k ≤ 15 → (1 * 2 ^ k) % 2 ^ 32 ≡ 2 ^ k
shifted k h = shl_exact 1 k 32 (omega arith) (omega arith) ∙ one-mul _

fits : (k p : ℕ) → k ≤ 15 → p < 2 ^ 16 → (p / 2 ^ k % 2 ≡ 1 → ⊥) → p + (1 * 2 ^ k) % 2 ^ 32 < 2 ^ 16
fits k p h f free = rw (shifted k h) (level-fits 16 k p (omega arith) f free)

pub returns-then-p-level-eq1 : goal.returns-then-p-level-eq1
unfolding with_level is_pending
returns-then-p-level-eq1 c = simp (eq-eqb _ _ c.if-p-level-eq1.true)

pub returns : goal.returns
unfolding with_level is_pending
returns c = simp (ne_eqb _ _ c.if-p-level-eq1.false, shifted c.args.level c.requires)

pub overflow_cast-result : goal.overflow_cast-result
overflow_cast-result c = omega (arith, fits c.args.level c.args.pending c.requires c.ranges.pending.fits c.if-p-level-eq1.false)

-- `fits` is right: 256 to the power of 0 to 3 is written out, and a word is below all higher ones.
use Prim.Native.Nat.{ℕ, zero, suc, ◌+◌, ◌-◌, ◌*◌, ◌^◌, ◌<◌, ◌≤◌}
use mathlib.Core.Path.{◌≡◌, sym, ◌∙◌, ap, subst}
use native.Mathlib.Nat.{add-suc, pow-suc}
use native.Mathlib.Omega.{arith}
use borrow.Author.Tests.{lt-ltb}
use Rattle.machine.specs.Words.{span}
use Rattle.forms.proofs.fits.Goals as goal

wide : (k : ℕ) → 4294967296 ≤ 256 ^ (4 + k)
wide zero = omega arith
wide (suc k) =
    let step : 256 ^ (4 + suc k) ≡ 256 ^ (4 + k) * 256 =
    ap (λ (n : ℕ). 256 ^ n) (add-suc 4 k) ∙ pow-suc 256 (4 + k) in
    omega (arith, wide k)

below_span : (L z : ℕ) → 4 ≤ L → z < 4294967296 → z < span L
below_span L z h l =
    let q : 4 + (L - 4) ≡ L = omega arith in
    omega (arith, subst (λ (n : ℕ). 4294967296 ≤ span n) q (wide (L - 4)))

pub returns-in-0 : goal.returns-in-0
returns-in-0 c = rw c.in-0.is

pub returns-in-1 : goal.returns-in-1
returns-in-1 c = rw c.in-1.is

pub returns-in-2 : goal.returns-in-2
returns-in-2 c = rw c.in-2.is

pub returns-in-3 : goal.returns-in-3
returns-in-3 c = rw c.in-3.is

pub returns-in_default : goal.returns-in_default
returns-in_default c =
    let long : 4 ≤ c.args.length = omega arith in
    sym (lt-ltb _ _ (below_span _ _ long (omega arith)))

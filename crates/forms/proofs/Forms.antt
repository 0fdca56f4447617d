-- A form that is none of the nine is above 8.
use Prim.Native.Nat.{ℕ, ◌<◌}
use mathlib.Core.Logic.{◌≢◌}
use native.Mathlib.Omega.{arith}

above_4 : (f : ℕ) → f ≢ 0 → f ≢ 1 → f ≢ 2 → f ≢ 3 → f ≢ 4 → 4 < f
above_4 f p0 p1 p2 p3 p4 = omega arith

above_8 : (f : ℕ) → 4 < f → f ≢ 5 → f ≢ 6 → f ≢ 7 → f ≢ 8 → 8 < f
above_8 f h p5 p6 p7 p8 = omega arith

pub no_form : (f : ℕ) → f ≢ 0 → f ≢ 1 → f ≢ 2 → f ≢ 3 → f ≢ 4 → f ≢ 5 → f ≢ 6 → f ≢ 7 → f ≢ 8 → 8 < f
no_form f p0 p1 p2 p3 p4 = above_8 f (above_4 f p0 p1 p2 p3 p4)

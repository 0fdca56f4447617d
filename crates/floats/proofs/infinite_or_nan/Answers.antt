-- `infinite_or_nan` is right: the finite numbers are those between the infinities, 1 / 0 and -1 / 0.
use Rattle.std.proofs.Common.{◌≡◌, true, false, not, ◌||◌, refl}
use lib.Ieee.{Float, nan, inf, fin, of_bits, div, neg, lt, is_nan}
use Rattle.machine.specs.Floats.{infinite}
use Rattle.floats.proofs.infinite_or_nan.Goals as goal

not-between : (x : Float) → (not (lt x (inf false)) || not (lt (inf true) x)) ≡ (infinite x || is_nan x)
unfolding lt is_nan infinite
not-between nan = refl
not-between (inf true) = refl
not-between (inf false) = refl
not-between (fin s m e) = refl

pub returns : goal.returns
unfolding of_bits div neg
returns c = not-between c.args.x

-- `is_valid` is right: A status word is valid where the bits between mode and level are 0, which is
-- the test.
use mathlib.Core.Path.{refl}
use Rattle.machine.specs.State.{valid_status}
use Rattle.checks.proofs.is_valid.Goals as goal

pub returns : goal.returns
unfolding valid_status
returns c = refl

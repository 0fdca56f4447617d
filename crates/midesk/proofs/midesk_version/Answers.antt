-- It answers the number of the version.
use mathlib.Core.Path.{refl}
use Rattle.midesk.specs.Exports.{version}
use Rattle.midesk.proofs.midesk_version.Goals as goal

pub returns : goal.returns
unfolding version
returns c = refl

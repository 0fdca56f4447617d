-- `is_excluded` is right: its tests are the definition's, kind by kind.
use Rattle.machine.specs.FloatCode.{excluded}
use Rattle.floating.proofs.is_excluded.Goals as goal

pub returns-in-F : goal.returns-in-F
unfolding excluded
returns-in-F c = rw c.in-F.is

pub returns-in-D : goal.returns-in-D
unfolding excluded
returns-in-D c = rw c.in-D.is

-- `left` is right: 32 times or more to the left no bit is left.
use mathlib.Core.Path.{sym}
use Rattle.machine.proofs.Magnitudes.{shift_left_all}
use Rattle.shifts.proofs.left.Goals as goal

pub returns-else-n-lt32 : goal.returns-else-n-lt32
returns-else-n-lt32 c = sym (shift_left_all 4 c.args.x c.args.n c.if-n-lt32.false)

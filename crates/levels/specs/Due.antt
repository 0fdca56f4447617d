-- The interrupt level that is due.
use Rattle.std.specs.Prelude.{ℕ}
use Rattle.machine.specs.Words.{pick}
use Rattle.machine.specs.State.{user_mode, level_of}
use Rattle.machine.specs.Steps.{due}

-- 0 for none; in kernel mode pending levels wait
unfoldable pub interrupt_of : ℕ → ℕ → ℕ
interrupt_of s p = pick (user_mode s) (due 15 p (level_of s)) 0

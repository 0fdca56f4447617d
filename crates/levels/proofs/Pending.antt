-- The interrupt level that is due: none where nothing is pending, and a level that is pending.
use Prim.Native.Nat.{ℕ, ◌^◌, ◌≤◌, ◌<◌}
use mathlib.Core.Path.{◌≡◌, refl}
use mathlib.Core.Bool.{Bool, true, false}
use native.Mathlib.Omega.{arith}
use Rattle.machine.specs.Words.{pick}
use Rattle.machine.specs.State.{user_mode, level_of}
use Rattle.machine.specs.Steps.{due}
use Rattle.machine.proofs.Levels.{due-none, due_pending}
use Rattle.levels.specs.Due.{interrupt_of}

pub none_pending : (s : ℕ) → interrupt_of s 0 ≡ 0
unfolding interrupt_of
none_pending s = go (user_mode s)
  where
    go : (b : Bool) → pick b (due 15 0 (level_of s)) 0 ≡ 0
    go true = due-none 15 (level_of s)
    go false = refl

pub level_pending : (s p k : ℕ) → k ≡ interrupt_of s p → 0 < k → 2 ^ k ≤ p
unfolding interrupt_of
level_pending s p k e h = go (user_mode s) e
  where
    go : (b : Bool) → k ≡ pick b (due 15 p (level_of s)) 0 → 2 ^ k ≤ p
    go true z = rw z (due_pending 15 p (level_of s) (rw z at h))
    go false z = absurd (omega arith)

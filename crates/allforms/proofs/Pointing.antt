-- An operand behind a word in memory is where that word leads to.
use Prim.Native.Nat.{ℕ, ◌+◌}
use mathlib.Core.Path.{◌≡◌, ◌∙◌}
use Rattle.std.specs.Prelude.{Option, Some, None}
use Rattle.machine.specs.State.{Registers}
use Rattle.machine.specs.Alarms.{OrAlarm, ◌>>=◌}
use Rattle.machine.specs.Map.{View}
use Rattle.machine.specs.Operands.{Fields, virtual, memory, at, formed}
use Rattle.sure.specs.declared.Spot.{Spot}
use Rattle.sure.specs.declared.Spot.TheVariants as spot
use Rattle.sure.specs.Answers.{SpotFrom, SmallSpot}
use Rattle.allforms.specs.Answers.{PointedBy}

module _ (w : OrAlarm ℕ) (more : ℕ) where
  pub pointed : (v : View) (L : ℕ) (k : Fields) (r : Registers)
      → ((place : ℕ) → formed v place L r k ≡ w >>= (λ n. at (memory (virtual (n + more))) r))
      → (s : Option Spot) → PointedBy w more s → SpotFrom v L k r r s × SmallSpot s
  pointed v L k r e (Some (spot.Number z)) p = absurd p
  pointed v L k r e (Some (spot.Register x n)) p = absurd p
  pointed v L k r e (Some (spot.Memory a)) p = (record { same = λ place. e place ∙ p.same r }, tt)
  pointed v L k r e None p = (tt, tt)

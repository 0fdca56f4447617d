-- What a byte asks for, an operation at a size: of a given byte this is computed, and a byte that is
-- one of two which ask for the same asks for it too.
use Prim.Native.Nat.{ℕ, ◌%◌}
use mathlib.Core.Path.{◌≡◌, ap, sym, ◌∙◌}
use mathlib.Core.Logic.{◌⊎◌, ⊎_elim}
use Rattle.std.proofs.Common.{Ok}
use Rattle.machine.specs.declared.Size.{Size}
use Rattle.machine.specs.declared.IntegerResult.{IntegerResult}
use Rattle.machine.specs.Words.{size_at}
use Rattle.machine.specs.Code.{Operation, result}
use Rattle.actions.specs.declared.Action.TheVariants.{Give}
use Rattle.actions.specs.Actions.{Asked, result_action, common_action, action_of}
use Rattle.effects.specs.Effects.{Acts}

module _ (op : Operation) (s : Size) where
  -- the byte has the size and asks for the operation at it
  abbrev pub Asks : ℕ → Type 0
  Asks b = ◌≡◌ {A = Size × (ℕ → ℕ → ℕ → Asked)} (size_at (b % 4), action_of b) (s, common_action (result op s))

  -- then it does what the operation gives, whatever the flags
  pub acts : {b x y : ℕ} {v : IntegerResult}
      → Asks b
      → Ok (Give s v) ≡ result_action op s x y
      → Acts b x y (Give (size_at (b % 4)) v)
  acts {b} {x} {y} {v} a e = record { same = λ f. ap (λ p. Ok (Give p.0 v)) a ∙ e ∙ ap (λ p. p.1 f x y) (sym a) }

  -- a byte that is one of two which ask for it
  module _ {b m n : ℕ} (p : Asks m) (q : Asks n) (k : (b ≡ m) ⊎ (b ≡ n)) where
    asks : Asks b
    asks = ⊎_elim (λ e. rw e p) (λ e. rw e q) k

    pub does : (f x y : ℕ) → action_of b f x y ≡ result_action op s x y
    does f x y = ap (λ a. a.1 f x y) asks

    pub either_acts : {x y : ℕ} {v : IntegerResult} → Ok (Give s v) ≡ result_action op s x y → Acts b x y (Give (size_at (b % 4)) v)
    either_acts = acts asks

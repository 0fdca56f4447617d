-- What a byte does with its operands' numbers, in the terms of `actions`; of what is unsure nothing is
-- said.
use Rattle.std.specs.Prelude.{ℕ, ◌%◌, ◌≡◌, Option, Some, None, Ok}
use Rattle.machine.specs.Words.{size_at}
use Rattle.actions.specs.declared.Action.{Action}
use Rattle.actions.specs.declared.Action.TheVariants as action
use Rattle.actions.specs.Actions.{action_of}
use Rattle.effects.specs.declared.NarrowEffect.{NarrowEffect}
use Rattle.effects.specs.declared.NarrowEffect.TheVariants as narrow

-- an effect is what the command byte does
abbrev pub EffectOf : ℕ → ℕ → ℕ → ℕ → Option Action → Type 0
EffectOf b f x y (Some a) = Ok a ≡ action_of b f x y
EffectOf b f x y None = Unit {0}

-- the byte does this, whatever the flags
pub record Acts (b x y : ℕ) (a : Action) : Type 0 where
  pub same : (f : ℕ) → Ok a ≡ action_of b f x y

-- "Add k = 0, 1, 2 for B, H, W": a result has the size of its byte
abbrev pub NarrowOf : ℕ → ℕ → ℕ → Option NarrowEffect → Type 0
NarrowOf b x y (Some (narrow.Gives v)) = Acts b x y (action.Give (size_at (b % 4)) v)
NarrowOf b x y (Some (narrow.Flags g)) = Acts b x y (action.Flags g)
NarrowOf b x y None = Unit {0}

-- `carry_out_narrow` is right: operands that are surely taken, and an effect that is the byte's action
-- at its size, finish the command.
use mathlib.Core.Path.{◌∙◌}
use Rattle.quick.proofs.Carrying.{gives_carried, flags_carried}
use Rattle.quick.proofs.carry_out_narrow.Goals as goal

pub returns-in-Gives : goal.returns-in-Gives
returns-in-Gives c =
    gives_carried _ _ _ _ _ _ _ c.in_ok-o.ensures.value c.take_all.ensures.only _ _
    (c.size_in-size.ensures ∙ c.requires.rules_value.0) (rw c.in-Gives.is at c.in_ok-v.ensures) _ _ _ c.put.ensures

pub returns-in-Flags : goal.returns-in-Flags
returns-in-Flags c =
    rw c.with_flags.ensures
    (flags_carried _ _ _ _ _ _ _ c.in_ok-o.ensures.value c.take_all.ensures.only _ (rw c.in-Flags.is at c.in_ok-v.ensures))

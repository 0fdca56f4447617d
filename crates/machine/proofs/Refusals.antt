-- The refusals of a step in two parts: numbers 1 to 3, which a fresh desk is tried for too, and
-- those after them.
use Rattle.std.specs.Prelude.{Ok, Err}
use Prim.Native.Nat.{ℕ}
use mathlib.Core.Path.{◌≡◌, refl}
use mathlib.Core.Bool.{Bool, true, false}
use mathlib.Core.List.{List, [], ◌∷◌, ◌++◌}
use Rattle.machine.specs.declared.Desk.{Desk}
use Rattle.machine.specs.declared.Refusal.{Refusal}
use Rattle.machine.specs.declared.Refusal.TheVariants as refusal
use Rattle.machine.specs.State.{is_running}
use Rattle.machine.specs.Calls.{Answer, passes4, passes5, first_refused, fresh_refusal, step_refusal}

-- the first answer that refuses
unfoldable pub or_else : Answer → Answer → Answer
or_else (Ok u) a = a
or_else (Err k) a = Err k

first_append : (ts us : List (Bool × Refusal)) → first_refused (ts ++ us) ≡ or_else (first_refused ts) (first_refused us)
unfolding first_refused or_else
first_append [] us = refl
first_append ((true, k) ∷ ts) us = first_append ts us
first_append ((false, k) ∷ ts) us = refl

-- numbers 4, 5 and 7
unfoldable pub later_refusal : Desk → ℕ → Answer
later_refusal d n =
    first_refused ((passes4 d n, refusal.Map) ∷ (passes5 d, refusal.Status) ∷ (is_running d.mark, refusal.Stopped)
    ∷ [])

pub step_parts : (d : Desk) (n : ℕ)
    → step_refusal d n ≡ or_else (fresh_refusal n d.system d.control) (later_refusal d n)
unfolding step_refusal fresh_refusal later_refusal
step_parts d n = first_append _ _

-- What a turn of the search knows of `first_armed`.
use Rattle.std.specs.Prelude.{Some, None}
use mathlib.Core.Path.{◌≡◌, refl, sym, ◌∙◌, ap}
use mathlib.Core.Bool.{Bool, not}
use mathlib.Core.List.{List}
use Prim.Native.Nat.{ℕ, suc, ◌+◌, ◌<◌, ◌≤◌}
use native.Mathlib.Numerals.{add-one}
use lib.Dec.{T}
use lib.ListN.{length, get_or, drop, drop_of_length-le}
use lib.Seq.{drop-cons}
use lib.Ieee.Bits.{is_true, is_false}
use Rattle.machine.specs.Words.{pick}
use Rattle.breakpoints.specs.declared.Breakpoint.{Breakpoint}
use Rattle.breakpoints.specs.Breakpoints.{unarmed, first_armed, first_from, holds_at}

-- the search has passed i breakpoints, and none of them holds
abbrev pub Passed : ℕ → List Breakpoint → ℕ → Type 0
Passed r15 ps i = first_armed r15 ps ≡ first_from r15 i (drop i ps)

opened : (r15 : ℕ) (ps : List Breakpoint) (i : ℕ) → i < length ps → Passed r15 ps i
    → first_armed r15 ps ≡ pick (holds_at r15 (get_or ps i unarmed)) (Some i) (first_from r15 (suc i) (drop (suc i) ps))
unfolding first_from
opened r15 ps i l e = e ∙ ap (first_from r15 i) (drop-cons ps i unarmed l)

pub starts : (r15 : ℕ) (ps : List Breakpoint) → Passed r15 ps 0
unfolding first_armed
starts r15 ps = refl

pub misses : (r15 : ℕ) (ps : List Breakpoint) (i : ℕ) → i < length ps → T (not (holds_at r15 (get_or ps i unarmed)))
    → Passed r15 ps i → Passed r15 ps (i + 1)
misses r15 ps i l m e =
    opened r15 ps i l e
    ∙ ap (λ (b : Bool). pick b (Some i) (first_from r15 (suc i) (drop (suc i) ps)))
    (is_false (holds_at r15 (get_or ps i unarmed)) m)
    ∙ ap (λ (j : ℕ). first_from r15 j (drop j ps)) (sym (add-one i))

pub finds : (r15 : ℕ) (ps : List Breakpoint) (i : ℕ) → i < length ps → T (holds_at r15 (get_or ps i unarmed))
    → Passed r15 ps i → Some i ≡ first_armed r15 ps
finds r15 ps i l h e =
    sym (opened r15 ps i l e
    ∙ ap (λ (b : Bool). pick b (Some i) (first_from r15 (suc i) (drop (suc i) ps)))
    (is_true (holds_at r15 (get_or ps i unarmed)) h))

pub ends_without : (r15 : ℕ) (ps : List Breakpoint) (i : ℕ) → length ps ≤ i → Passed r15 ps i
    → None ≡ first_armed r15 ps
unfolding first_from
ends_without r15 ps i l e = sym (e ∙ ap (first_from r15 i) (drop_of_length-le ps l))

-- No more than the first 64 of a list's breakpoints are looked at: how many those are, and what is so of a place among
-- them.
use mathlib.Core.Path.{◌≡◌}
use Prim.Native.Nat.{ℕ, ◌<◌, ◌≤◌, min}
use native.Mathlib.Nat.{lt_of_lt_of_le, min-le_left, min-le_right}
use mathlib.Core.List.{List}
use lib.Dec.{T, ltb, ltb→lt}
use borrow.Author.Tests.{lt-ltb}
use lib.ListN.{length, get_or, take, length-take}
use lib.Seq.{get_or-take}
use Rattle.breakpoints.specs.declared.Breakpoint.{Breakpoint}
use Rattle.breakpoints.specs.Breakpoints.{unarmed, most}

module _ (ps : List Breakpoint) where
  abbrev pub looked : ℕ
  looked = length (take most ps)

  pub looked_within : looked ≤ length ps
  looked_within = rw (length-take most ps) (min-le_right most (length ps))

  pub looked-few : looked ≤ most
  looked-few = rw (length-take most ps) (min-le_left most (length ps))

  -- a place among them is one of the list, with the same breakpoint
  module _ (i : ℕ) (less : T (ltb i looked)) where
    pub below : i < looked
    below = ltb→lt i looked less

    pub in_list : i < length ps
    in_list = lt_of_lt_of_le below looked_within

    pub same : get_or (take most ps) i unarmed ≡ get_or ps i unarmed
    same = get_or-take most ps i unarmed (lt_of_lt_of_le below looked-few)

  -- what a test against the number that `looked_at` gives tells
  module _ (i n : ℕ) (e : n ≡ min most (length ps)) where
    pub tested : i < n → T (ltb i looked)
    tested l = rw (length-take most ps, ← e, lt-ltb i n l) tt

    pub past : n ≤ i → looked ≤ i
    past l = rw (length-take most ps, ← e) l

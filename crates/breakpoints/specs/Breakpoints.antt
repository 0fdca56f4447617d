-- Request F-3 of document 02, its points: "The caller lends a list of points, each an R15 value and a
-- switch for armed. .. an armed point equals R15 .. the place, from 0, of the first such point in the
-- list." The field's word for such a point is breakpoint. The types are those of src/lib.rt. A list is lent for
-- reading alone, so that none is handed back: "The list isn't altered."
use Rattle.std.specs.Prelude.{ℕ, suc, Bool, false, ◌&&◌, List, [], ◌∷◌, eqb, leb, length, Option, Some, None}
use Rattle.machine.specs.Words.{pick}
use Rattle.breakpoints.specs.declared.Breakpoint.{Breakpoint}

-- one that holds no run
abbrev pub unarmed : Breakpoint
unarmed = record { r15 = record { 0 = 0 }; armed = false }

-- "an armed point equals R15"
abbrev pub holds_at : ℕ → Breakpoint → Bool
holds_at r15 p = p.armed && eqb p.r15.0 r15

-- the place of the first that holds, that of the list's first one being k; none holds
unfoldable pub first_from : ℕ → ℕ → List Breakpoint → Option ℕ
first_from r15 k [] = None
first_from r15 k (p ∷ ps) = pick (holds_at r15 p) (Some k) (first_from r15 (suc k) ps)

-- "the place, from 0, of the first such point in the list"
unfoldable pub first_armed : ℕ → List Breakpoint → Option ℕ
first_armed r15 ps = first_from r15 0 ps

-- a list has at most so many points
abbrev pub most : ℕ
most = 64

-- not refused by 20, "more than 64 points": armed or not
abbrev pub few : List Breakpoint → Bool
few ps = leb (length ps) most

-- Request F-5 of document 02, when two lists clash: "where both put the same address, their last bytes there
-- must be equal"; and what becomes of the scratch: "it is all zeros after loading or a clash". What a list
-- puts, and its last put at an address, are those of `lists`.
use Rattle.std.specs.Prelude.{ℕ, zero, suc, Bool, true, ◌&&◌, List, eqb, length, replicate}
use Rattle.std.specs.Prelude.{Option, Some, None}
use Rattle.machine.specs.Map.{RealWrites}
use Rattle.lists.specs.Lists.{last_put}

-- of the two lists' last bytes at an address; where one puts none, nothing is asked
abbrev pub same_last : Option ℕ → Option ℕ → Bool
same_last (Some b) (Some c) = eqb b c
same_last (Some b) None = true
same_last None x = true

-- at every address below n
unfoldable pub agree : ℕ → RealWrites → RealWrites → Bool
agree zero x y = true
agree (suc a) x y = same_last (last_put a x) (last_put a y) && agree a x y

-- "all zeros": a scratch as long as this one
abbrev pub cleared : List ℕ → List ℕ
cleared s = replicate (length s) 0

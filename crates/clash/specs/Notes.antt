-- Not the request: what is noted in the scratch, in a round for the high halves of all bytes and one for
-- the low halves. A note is 0 where the first list puts nothing, else one more than the half that it puts
-- there last; and 32 more where the second list puts another half there last.
use Rattle.std.specs.Prelude.{ℕ, zero, suc, ◌+◌, ◌/◌, ◌%◌, Bool, true, false, ◌&&◌, ◌||◌, List, [], ◌∷◌, leb, eqb, set}
use Rattle.std.specs.Prelude.{Option, Some, None}
use Rattle.machine.specs.Words.{pick, byte_at}
use Rattle.machine.specs.Map.{RealWrites}
use Rattle.lists.specs.Lists.{last_put}
use Rattle.clash.specs.declared.Half.{Half}
use Rattle.clash.specs.declared.Half.TheVariants.{High, Low}
use Rattle.clash.specs.declared.Turn.{Turn}
use Rattle.clash.specs.declared.Turn.TheVariants.{First, Second}

abbrev pub half_of : Half → ℕ → ℕ
half_of High b = b / 16
half_of Low b = b % 16

-- of the two lists' last bytes at an address: whether they have this half in common
abbrev pub same_half : Half → Option ℕ → Option ℕ → Bool
same_half h (Some b) (Some c) = eqb (half_of h b) (half_of h c)
same_half h (Some b) None = true
same_half h None x = true

-- at every address below n
unfoldable pub agree_by : Half → ℕ → RealWrites → RealWrites → Bool
agree_by h zero x y = true
agree_by h (suc a) x y = same_half h (last_put a x) (last_put a y) && agree_by h a x y

-- the note after the second list puts a half v, where the first list's note is f
unfoldable pub compared : ℕ → ℕ → ℕ
compared f v = pick (eqb f 0 || eqb f (v + 1)) f (f + 32)

-- the note after a half v is put, by the note x before it
abbrev pub note_of : Turn → ℕ → ℕ → ℕ
note_of First x v = v + 1
note_of Second x v = compared (x % 32) v

-- the notes after some puts
unfoldable pub noted : Half → Turn → RealWrites → List ℕ → List ℕ
noted h t [] s = s
noted h t (w ∷ ws) s = noted h t ws (set s w.0.0 (note_of t (byte_at s w.0.0) (half_of h w.1)))

-- whether one of the first n notes says that the lists differ
unfoldable pub found_below : ℕ → List ℕ → Bool
found_below zero s = false
found_below (suc a) s = leb 32 (byte_at s a) || found_below a s

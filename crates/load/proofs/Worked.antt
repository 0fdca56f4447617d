-- Worked loads: what a list leaves in a memory, and that number 1 comes first, by computation.
use Prim.Native.Nat.{ℕ}
use mathlib.Core.Path.{◌≡◌, refl}
use mathlib.Core.List.{List, [], ◌∷◌}
use lib.ListN.{replicate}
use lib.Seq.{sets}
use Rattle.std.specs.Prelude.{Ok, Err}
use Rattle.machine.specs.Words.{Memory, word_at}
use Rattle.machine.specs.State.{allowed_length}
use Rattle.machine.specs.Map.{real_writes_from, commit}
use Rattle.lists.specs.declared.LoadRefusal.TheVariants.{Length, Outside}
use Rattle.lists.specs.Lists.{next_by, next_at, followed, reading_from, reading_of, puts_from, puts_of, pieces_in, pieces_of}
use Rattle.lists.specs.Lists.{well_formed}
use Rattle.lists.specs.Refusals.{all_inside, desk_pieces, list_refusal}
use Rattle.load.specs.Loading.{Loaded, loaded, load_refusal, loaded_by, load_of}

-- a load, with every definition unfolded that it computes with
unfoldable pub whole_load : Memory → List ℕ → Loaded
unfolding word_at allowed_length real_writes_from commit next_by next_at followed reading_from reading_of puts_from puts_of
    pieces_in pieces_of well_formed all_inside list_refusal load_refusal loaded_by load_of
whole_load m list = load_of desk_pieces m list

-- 9, then 1 2 3 4, then two times 7 from 0 on; 8 in the place of 1
abbrev patched : List ℕ
patched =
    0x02 ∷ 9 ∷ 0x03 ∷ 1 ∷ 2 ∷ 3 ∷ 4 ∷ 0x04 ∷ 0 ∷ 2 ∷ 7 ∷ 0x01 ∷ 0 ∷ 0 ∷ 0 ∷ 1 ∷ 0x02 ∷ 8 ∷ 0x00 ∷ []

-- a memory of 512 bytes of 5: the rest of it stays
pub loads_patched : whole_load (replicate 512 5) patched
    ≡ loaded (Ok tt) (sets (replicate 512 5) 0 (9 ∷ 8 ∷ 2 ∷ 3 ∷ 4 ∷ 7 ∷ 7 ∷ []))
unfolding whole_load
loads_patched = refl

-- the first piece is inside, the second is not: nothing changes
pub refuses_outside : whole_load (replicate 512 5) (0x02 ∷ 9 ∷ 0x01 ∷ 0 ∷ 0 ∷ 2 ∷ 0 ∷ 0x02 ∷ 9 ∷ 0x00 ∷ [])
    ≡ loaded (Err Outside) (replicate 512 5)
unfolding whole_load
refuses_outside = refl

-- 513 bytes are no memory, neither for a list that is 17 nor for one that would be loaded
pub length_first : (whole_load (replicate 513 5) [] ≡ loaded (Err Length) (replicate 513 5))
    × (whole_load (replicate 513 5) patched ≡ loaded (Err Length) (replicate 513 5))
unfolding whole_load
length_first = (refl, refl)

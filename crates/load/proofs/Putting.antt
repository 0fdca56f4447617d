-- A command put into a memory: that it has room; and what is left of the list, put behind it, gives what
-- the whole list gives.
use Prim.Native.Nat.{ℕ, ◌+◌, ◌≤◌, ◌<◌}
use mathlib.Core.Path.{◌≡◌, sym}
use mathlib.Core.Bool.{true}
use mathlib.Core.List.{List, []}
use native.Mathlib.Omega.{arith}
use native.Mathlib.Decide.{dec_lt}
use lib.ListN.{length}
use lib.Seq.{sets, sets-eq, drop-drop}
use borrow.Rule.Slice.PartMut.{put_mid}
use Rattle.std.proofs.Common.{append_assoc}
use Rattle.std.specs.Prelude.{Some, Ok}
use Rattle.machine.specs.Words.{Memory}
use Rattle.machine.specs.Map.{RealWrites, commit}
use Rattle.machine.proofs.Writes.{commit_from}
use Rattle.lists.specs.declared.Command.{Command}
use Rattle.lists.specs.Lists.{width_of, next_at, put_bytes, place_after}
use Rattle.load.specs.Judged.{Puttable}
use Rattle.lists.proofs.Reading.{rest_from}
use Rattle.lists.proofs.Left.{sound_from, left_from, more_inside, more_left}
use Rattle.lists.proofs.Puts.{commit_append}

-- a command that puts bytes has room for them
pub room : {m : Memory} {place : ℕ} {c d : Command} → Puttable m place c → c ≡ d → 0 < length (put_bytes d)
    → place + length (put_bytes d) ≤ length m
room p e = rw e at p.inside

-- and the place after it in an address
pub end_small : {m : Memory} {place : ℕ} (c : Command) → Puttable m place c → length m < 0x1_0000_0000
    → place < 0x1_0000_0000 → place + length (put_bytes c) < 0x1_0000_0000
end_small {place = place} c p l h = go (dec_lt 0 (length (put_bytes c)))
  where
    go : Dec (0 < length (put_bytes c)) → place + length (put_bytes c) < 0x1_0000_0000
    go (yes z) = omega (arith, p.inside z)
    go (no z) = omega arith

-- a part of the memory, replaced by as many bytes, is as these bytes leave it one after another
pub part_laid : (m : Memory) (a k : ℕ) (xs bs : List ℕ) → xs ≡ bs → length bs ≡ k → a + k ≤ length m
    → put_mid a k m xs ≡ sets m a bs
part_laid m a k xs bs e l h =
    rw (e, ← l) (simp drop-drop (sym (simp append_assoc at (sets-eq bs m a (omega arith)))))

-- a command of a list, and what is left behind it
module _ (list : List ℕ) (at : ℕ) (c : Command) (here : next_at list at ≡ Ok (Some c)) where
  pub more_puttable : (n place : ℕ) (m : Memory) → length m ≡ n → sound_from n place (rest_from list at) ≡ true
      → Puttable m place c
  more_puttable n place m l h = record { inside = rw l (more_inside list at c here n place h) }

  pub more_put : (n place : ℕ) (m : Memory) → sound_from n place (rest_from list at) ≡ true
      → commit (left_from list place at) m
      ≡ commit (left_from list (place_after place c) (at + width_of c)) (sets m place (put_bytes c))
  more_put n place m h = rw (more_left list at c here n place h, commit_append, commit_from)

pub none_put : {ws : RealWrites} → ws ≡ [] → (m : Memory) → commit ws m ≡ m
unfolding commit
none_put e m = rw e

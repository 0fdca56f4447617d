-- A list judged command by command: what is left, judged from what is kept of the commands before it,
-- gives what the whole list gives.
use Prim.Native.Nat.{ℕ, ◌+◌, ◌≤◌, ◌<◌}
use mathlib.Core.Path.{◌≡◌, refl, ◌∙◌}
use mathlib.Core.Logic.{◌≢◌}
use mathlib.Core.Bool.{Bool, true, false, ◌&&◌}
use mathlib.Core.List.{List}
use native.Mathlib.Nat.{zero-add, add-zero, add_assoc}
use native.Mathlib.Omega.{arith}
use borrow.Author.Tests.{le-leb, lt-leb}
use lib.Dec.{leb}
use lib.ListN.{length}
use Rattle.std.specs.Prelude.{Some, None, Ok, Err}
use Rattle.machine.specs.Map.{real_writes_from}
use Rattle.lists.specs.declared.Command.{Command}
use Rattle.lists.specs.declared.Command.TheVariants.{Move, Byte, Four, Copies}
use Rattle.lists.specs.declared.LoadRefusal.{LoadRefusal}
use Rattle.lists.specs.declared.LoadRefusal.TheVariants.{Malformed, Pieces, Outside}
use Rattle.lists.specs.Lists.{width_of, next_at, Reading, malformed, commands, before, reading_of}
use Rattle.lists.specs.Lists.{put_bytes, place_after, puts_from, piece_count, pieces_in, commands_in, well_formed_in}
use Rattle.lists.specs.Lists.{well_formed, pieces_of, puts_of}
use Rattle.lists.specs.Refusals.{all_inside, LoadAnswer, unless, list_refusal}
use Rattle.lists.proofs.Puts.{and_later, and_false, and_true, inside_append}
use Rattle.lists.proofs.Reading.{rest_from, rest_more, rest_ends, rest_goes_on, rest_unreadable, rest_all}
use Rattle.lists.proofs.Reading.{unreadable_malformed}

-- ---- What is left of a list

-- judged from the place, the pieces so far, and whether the puts so far are inside
pub judged : ℕ → ℕ → ℕ → ℕ → Bool → Reading → LoadAnswer
judged limit n place pieces inside malformed = Err Malformed
judged limit n place pieces inside (commands cs) =
    unless (leb (pieces + pieces_in cs) limit) Pieces
    (unless (inside && all_inside n (puts_from place cs)) Outside (Ok tt))

module _ (limit n : ℕ) where
  pub judged_all : (list : List ℕ) → judged limit n 0 0 true (rest_from list 0) ≡ list_refusal limit n list
  unfolding judged list_refusal well_formed pieces_of puts_of
  judged_all list = rw rest_all (go (reading_of list))
    where
      go : (r : Reading) → judged limit n 0 0 true r
          ≡ unless (well_formed_in r) Malformed
          (unless (leb (pieces_in (commands_in r)) limit) Pieces
          (unless (all_inside n (puts_from 0 (commands_in r))) Outside (Ok tt)))
      go malformed = refl
      go (commands cs) = rw zero-add

  module _ (place pieces : ℕ) (list : List ℕ) (at : ℕ) where
    -- the list ends here, with its last byte or before it; or it can't be read on
    module _ (here : next_at list at ≡ Ok None) (last : at + 1 ≡ length list) where
      at-end : (inside : Bool) → judged limit n place pieces inside (rest_from list at)
          ≡ unless (leb pieces limit) Pieces (unless inside Outside (Ok tt))
      unfolding judged pieces_in puts_from all_inside
      at-end inside = rw (rest_ends list at here last, add-zero, and_true)

      pub judged_pieces : (inside : Bool) → limit < pieces
          → Err Pieces ≡ judged limit n place pieces inside (rest_from list at)
      judged_pieces inside h = rw (at-end inside, lt-leb _ _ h)

      pub judged_last : (inside : Bool) → pieces ≤ limit
          → unless inside Outside (Ok tt) ≡ judged limit n place pieces inside (rest_from list at)
      judged_last inside h = rw (at-end inside, le-leb _ _ h)

    pub judged_early_end : (inside : Bool) → next_at list at ≡ Ok None → at + 1 ≢ length list
        → Err Malformed ≡ judged limit n place pieces inside (rest_from list at)
    unfolding judged
    judged_early_end inside e h = rw (rest_goes_on list at e h)

    pub judged_unreadable : (inside : Bool) (k : LoadRefusal) → next_at list at ≡ Err k
        → Err k ≡ judged limit n place pieces inside (rest_from list at)
    unfolding judged
    judged_unreadable inside k e = rw (rest_unreadable list at k e, unreadable_malformed list at k e)

    -- a command more: where it fits the place moves on, else all is outside
    module _ (c : Command) (here : next_at list at ≡ Ok (Some c)) where
      past : (inside : Bool) (r : Reading) → judged limit n place pieces inside (before c r)
          ≡ judged limit n (place_after place c) (pieces + piece_count c)
          (inside && all_inside n (real_writes_from place (put_bytes c))) r
      unfolding judged pieces_in puts_from
      past inside malformed = refl
      past inside (commands cs) = rw (inside_append, and_later, ← add_assoc)

      pub judged_fitting : (inside : Bool) → all_inside n (real_writes_from place (put_bytes c)) ≡ true
          → judged limit n place pieces inside (rest_from list at)
          ≡ judged limit n (place_after place c) (pieces + piece_count c) inside (rest_from list (at + width_of c))
      judged_fitting inside h =
          rw (rest_more list at c here) (past inside (rest_from list (at + width_of c)) ∙ rw (h, and_true))

      nowhere : (p q k : ℕ) (r : Reading) → judged limit n p k false r ≡ judged limit n q k false r
      unfolding judged
      nowhere p q k malformed = refl
      nowhere p q k (commands cs) = refl

      pub judged_outside : (inside : Bool) → all_inside n (real_writes_from place (put_bytes c)) ≡ false
          → judged limit n place pieces inside (rest_from list at)
          ≡ judged limit n place (pieces + piece_count c) false (rest_from list (at + width_of c))
      judged_outside inside h =
          rw (rest_more list at c here)
          (past inside (rest_from list (at + width_of c)) ∙ rw (h, and_false)
          (nowhere (place_after place c) place (pieces + piece_count c) (rest_from list (at + width_of c))))

-- a command counts at most its bytes
pub pieces_width : (c : Command) → piece_count c ≤ width_of c
pieces_width (Move a) = omega arith
pieces_width (Byte b) = omega arith
pieces_width (Four p q r s) = omega arith
pieces_width (Copies k b) = omega arith

-- What is left of a list, command by command: whether it may be put, and its puts, which are those of the
-- next command and of what is left behind it.
use Prim.Native.Nat.{ℕ, ◌+◌, ◌≤◌, ◌<◌}
use mathlib.Core.Path.{◌≡◌, refl}
use mathlib.Core.Bool.{Bool, true, false}
use mathlib.Core.List.{List, [], ◌∷◌, ◌++◌}
use native.Mathlib.Omega.{arith}
use native.Mathlib.Decide.{ℕ_discrete, dec_le}
use lib.ListN.{length}
use Rattle.std.specs.Prelude.{Some, None, Ok, Err}
use Rattle.machine.specs.Map.{RealWrites, real_writes_from}
use Rattle.lists.specs.declared.Command.{Command}
use Rattle.lists.specs.declared.LoadRefusal.{LoadRefusal}
use Rattle.lists.specs.Lists.{width_of, next_at, Reading, malformed, commands, before, commands_in, well_formed_in}
use Rattle.lists.specs.Lists.{reading_of, well_formed, put_bytes, place_after, puts_from, puts_of}
use Rattle.lists.specs.Refusals.{all_inside}
use Rattle.lists.proofs.Reading.{rest_from, rest_more, rest_ends, rest_goes_on, rest_unreadable, rest_all}
use Rattle.lists.proofs.Puts.{and_left, and_right, inside_append, row_outside}

-- some bytes in a row that are inside end inside
row_ends_inside : (n a : ℕ) (bs : List ℕ) → 0 < length bs → all_inside n (real_writes_from a bs) ≡ true
    → a + length bs ≤ n
row_ends_inside n a [] l h = omega arith
row_ends_inside n a (b ∷ bs) l h = go (dec_le (a + length (b ∷ bs)) n)
  where
    go : Dec (a + length (b ∷ bs) ≤ n) → a + length (b ∷ bs) ≤ n
    go (yes i) = i
    go (no i) =
        let e : all_inside n (real_writes_from a (b ∷ bs)) ≡ false = row_outside n a b bs (omega arith) in
        let z : ◌≡◌ {A = ℕ} 0 1 = cc in
        omega arith

-- it is well formed, and its puts lie inside a memory of n bytes
pub sound_from : ℕ → ℕ → Reading → Bool
sound_from n place malformed = false
sound_from n place (commands cs) = all_inside n (puts_from place cs)

module _ (list : List ℕ) where
  -- the puts that are left, from a place and an offset on
  pub left_from : ℕ → ℕ → RealWrites
  left_from place at = puts_from place (commands_in (rest_from list at))

  pub all_sound : (n : ℕ) → well_formed list ≡ true → all_inside n (puts_of list) ≡ true
      → sound_from n 0 (rest_from list 0) ≡ true
  unfolding well_formed puts_of sound_from
  all_sound n = rw (rest_all list) (go (reading_of list))
    where
      go : (r : Reading) → well_formed_in r ≡ true → all_inside n (puts_from 0 (commands_in r)) ≡ true
          → sound_from n 0 r ≡ true
      go malformed w i = w
      go (commands cs) w i = i

  pub all_left : left_from 0 0 ≡ puts_of list
  unfolding puts_of left_from
  all_left = rw (rest_all list)

  -- a command, and what is left behind it
  module _ (at : ℕ) (c : Command) (here : next_at list at ≡ Ok (Some c)) where
    pub more_inside : (n place : ℕ) → sound_from n place (rest_from list at) ≡ true → 0 < length (put_bytes c)
        → place + length (put_bytes c) ≤ n
    unfolding sound_from puts_from
    more_inside n place h l = go (rest_from list (at + width_of c)) (rw (rest_more list at c here) at h)
      where
        go : (r : Reading) → sound_from n place (before c r) ≡ true → place + length (put_bytes c) ≤ n
        go malformed e = let z : ◌≡◌ {A = ℕ} 0 1 = cc in omega arith
        go (commands cs) e =
            row_ends_inside n place (put_bytes c) l
            (and_left (all_inside n (real_writes_from place (put_bytes c))) _ (rw inside_append at e))

    pub more_sound : (n place : ℕ) → sound_from n place (rest_from list at) ≡ true
        → sound_from n (place_after place c) (rest_from list (at + width_of c)) ≡ true
    unfolding sound_from puts_from
    more_sound n place h = go (rest_from list (at + width_of c)) (rw (rest_more list at c here) at h)
      where
        go : (r : Reading) → sound_from n place (before c r) ≡ true → sound_from n (place_after place c) r ≡ true
        go malformed e = e
        go (commands cs) e = and_right (all_inside n (real_writes_from place (put_bytes c))) _ (rw inside_append at e)

    pub more_left : (n place : ℕ) → sound_from n place (rest_from list at) ≡ true
        → left_from place at ≡ real_writes_from place (put_bytes c) ++ left_from (place_after place c) (at + width_of c)
    unfolding sound_from left_from puts_from
    more_left n place h =
        rw (rest_more list at c here)
        (go (rest_from list (at + width_of c)) (rw (rest_more list at c here) at h))
      where
        go : (r : Reading) → sound_from n place (before c r) ≡ true
            → puts_from place (commands_in (before c r))
            ≡ real_writes_from place (put_bytes c) ++ puts_from (place_after place c) (commands_in r)
        go malformed e = cc
        go (commands cs) e = refl

  pub end-left : (at place : ℕ) → next_at list at ≡ Ok None → left_from place at ≡ []
  unfolding left_from puts_from
  end-left at place here = go (ℕ_discrete (at + 1) (length list))
    where
      go : Dec (at + 1 ≡ length list) → left_from place at ≡ []
      go (yes e) = rw (rest_ends list at here e)
      go (no e) = rw (rest_goes_on list at here e)

  pub unreadable_left : (at place : ℕ) (k : LoadRefusal) → next_at list at ≡ Err k → left_from place at ≡ []
  unfolding left_from puts_from
  unreadable_left at place k here = rw (rest_unreadable list at k here)

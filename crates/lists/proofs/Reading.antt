-- A list read from an offset on: what stands there, and what is read behind it.
use Prim.Native.Nat.{ℕ, zero, suc, ◌+◌, ◌-◌, ◌*◌, ◌≤◌, ◌<◌}
use mathlib.Core.Path.{◌≡◌, refl, ◌∙◌, ap}
use mathlib.Core.Logic.{◌≢◌}
use mathlib.Core.Bool.{Bool, true, false}
use mathlib.Core.List.{List, []}
use native.Mathlib.Decide.{ℕ_discrete}
use native.Mathlib.Omega.{arith}
use native.Mathlib.Nat.{zero-add, suc-add, sub-zero}
use borrow.Author.Tests.{lt-leb, leb-true, eq-eqb, ne_eqb}
use lib.Dec.{leb, eqb}
use lib.ListN.{length}
use Rattle.std.specs.Prelude.{Some, None, Ok, Err}
use Rattle.machine.specs.Words.{pick, byte_at, word_at}
use Rattle.lists.specs.declared.Command.{Command}
use Rattle.lists.specs.declared.Command.TheVariants.{Move, Byte, Four, Copies}
use Rattle.lists.specs.declared.LoadRefusal.{LoadRefusal}
use Rattle.lists.specs.declared.LoadRefusal.TheVariants.{Malformed}
use Rattle.lists.specs.Lists.{width_of, Next, width_in, next_by, next_at, Reading, malformed, commands, before, followed}
use Rattle.lists.specs.Lists.{reading_from, reading_of}

-- ---- One command

pub width_positive : (c : Command) → 1 ≤ width_of c
width_positive (Move a) = omega arith
width_positive (Byte b) = omega arith
width_positive (Four a b c d) = omega arith
width_positive (Copies n b) = omega arith

width_in_positive : (x : Next) → 1 ≤ width_in x
width_in_positive (Ok None) = omega arith
width_in_positive (Ok (Some c)) = width_positive c
width_in_positive (Err u) = omega arith

alike : (b : Bool) → pick b (let x : Next = Err Malformed in x) (Err Malformed) ≡ Err Malformed
alike true = refl
alike false = refl

-- by the tests: that all bytes are there, and for each byte
only_malformed : (all end move one four copies : Bool) (c d e f : Command) (k : LoadRefusal)
    → pick all
    (pick end (Ok None)
    (pick move (Ok (Some c))
    (pick one (Ok (Some d)) (pick four (Ok (Some e)) (pick copies (Ok (Some f)) (Err Malformed))))))
    (Err Malformed)
    ≡ Err k
    → k ≡ Malformed
only_malformed false b0 b1 b2 b3 b4 c d e f k h = cc
only_malformed true true b1 b2 b3 b4 c d e f k h = cc
only_malformed true false true b2 b3 b4 c d e f k h = cc
only_malformed true false false true b3 b4 c d e f k h = cc
only_malformed true false false false true b4 c d e f k h = cc
only_malformed true false false false false true c d e f k h = cc
only_malformed true false false false false false c d e f k h = cc

module _ (list : List ℕ) (at : ℕ) where
  -- a command of so many bytes, or too few are left for it
  abbrev pub whole : ℕ → Next → Next
  whole width x = pick (leb (at + width) (length list)) x (Err Malformed)

  -- by its byte
  pub at_00 : byte_at list at ≡ 0x00 → next_at list at ≡ whole 1 (Ok None)
  unfolding next_at next_by
  at_00 e = rw e

  pub at_01 : byte_at list at ≡ 0x01 → next_at list at ≡ whole 5 (Ok (Some (Move (record { 0 = word_at list (at + 1) }))))
  unfolding next_at next_by
  at_01 e = rw e

  pub at_02 : byte_at list at ≡ 0x02 → next_at list at ≡ whole 2 (Ok (Some (Byte (byte_at list (at + 1)))))
  unfolding next_at next_by
  at_02 e = rw e

  pub at_03 : byte_at list at ≡ 0x03
      → next_at list at
      ≡ whole 5
      (Ok (Some (Four (byte_at list (at + 1)) (byte_at list (at + 2)) (byte_at list (at + 3)) (byte_at list (at + 4)))))
  unfolding next_at next_by
  at_03 e = rw e

  pub at_04 : byte_at list at ≡ 0x04
      → next_at list at
      ≡ whole 4 (Ok (Some (Copies (byte_at list (at + 1) * 0x100 + byte_at list (at + 2)) (byte_at list (at + 3)))))
  unfolding next_at next_by
  at_04 e = rw e

  pub at_unknown : 4 < byte_at list at → next_at list at ≡ Err Malformed
  unfolding next_at next_by
  at_unknown h =
      let ne : (k : ℕ) → k ≤ 4 → byte_at list at ≢ k = λ k l e. omega arith in
      rw (
        ne_eqb _ _ (ne 0 (omega arith)),
        ne_eqb _ _ (ne 1 (omega arith)),
        ne_eqb _ _ (ne 2 (omega arith)),
        ne_eqb _ _ (ne 3 (omega arith)),
        ne_eqb _ _ (ne 4 (omega arith)),
      ) (alike (leb (at + 1) (length list)))

  -- by the tests for all commands
  pub at_none : (byte_at list at ≡ 0x02 → length list < at + 2) → (byte_at list at ≡ 0x03 → length list < at + 5)
      → (byte_at list at ≡ 0x04 → length list < at + 4) → (byte_at list at ≡ 0x01 → length list < at + 5)
      → byte_at list at ≢ 0x00 → next_at list at ≡ Err Malformed
  at_none two three four one other =
      go (ℕ_discrete (byte_at list at) 1) (ℕ_discrete (byte_at list at) 2) (ℕ_discrete (byte_at list at) 3)
      (ℕ_discrete (byte_at list at) 4)
    where
      go : Dec (byte_at list at ≡ 1) → Dec (byte_at list at ≡ 2) → Dec (byte_at list at ≡ 3) → Dec (byte_at list at ≡ 4)
          → next_at list at ≡ Err Malformed
      go (yes e) b c d = rw (at_01 e, lt-leb (at + 5) (length list) (one e))
      go (no a) (yes e) c d = rw (at_02 e, lt-leb (at + 2) (length list) (two e))
      go (no a) (no b) (yes e) d = rw (at_03 e, lt-leb (at + 5) (length list) (three e))
      go (no a) (no b) (no c) (yes e) = rw (at_04 e, lt-leb (at + 4) (length list) (four e))
      go (no a) (no b) (no c) (no d) = at_unknown (omega arith)

  pub at-end : length list ≤ at → next_at list at ≡ Err Malformed
  unfolding next_at
  at-end h =
      rw (lt-leb (at + width_in (next_by (byte_at list at) list at)) (length list)
      (omega (arith, width_in_positive (next_by (byte_at list at) list at))))

  -- where nothing can be read the list is malformed
  pub unreadable_malformed : (k : LoadRefusal) → next_at list at ≡ Err k → k ≡ Malformed
  unfolding next_at next_by
  unreadable_malformed k e =
      let n = byte_at list at in
      only_malformed (leb (at + width_in (next_by n list at)) (length list)) (eqb n 0x00) (eqb n 0x01) (eqb n 0x02)
      (eqb n 0x03) (eqb n 0x04) _ _ _ _ k e

  -- a command that stands there has all its bytes
  pub next_inside : (c : Command) → next_at list at ≡ Ok (Some c) → at + width_of c ≤ length list
  unfolding next_at
  next_inside c =
      go (next_by (byte_at list at) list at) (leb (at + width_in (next_by (byte_at list at) list at)) (length list)) refl
    where
      go : (x : Next) (b : Bool) → leb (at + width_in x) (length list) ≡ b → pick b x (Err Malformed) ≡ Ok (Some c)
          → at + width_of c ≤ length list
      go x true h e = let k : width_in x ≡ width_of c = ap width_in e in omega (arith, leb-true)
      go x false h e = let z : ◌≡◌ {A = ℕ} 0 1 = cc in omega arith

-- ---- The rest of a list

-- what is read from an offset on
abbrev pub rest_from : List ℕ → ℕ → Reading
rest_from list at = reading_from (length list - at) list at

module _ (list : List ℕ) where
  -- one command more to read changes nothing where there are enough
  enough : (n at : ℕ) → length list ≤ at + n → reading_from (suc n) list at ≡ reading_from n list at
  unfolding reading_from followed
  enough zero at h = rw (at-end list at (omega arith))
  enough (suc n) at h =
      ap (followed (next_at list at) (eqb (at + 1) (length list)))
      (enough n (at + width_in (next_at list at)) (omega (arith, width_in_positive (next_at list at))))

  many : (d at : ℕ) → reading_from (d + (length list - at)) list at ≡ rest_from list at
  many zero at = rw zero-add
  many (suc d) at = rw suc-add (enough (d + (length list - at)) at (omega arith) ∙ many d at)

  -- a command, and the rest behind it
  pub rest_more : (at : ℕ) (c : Command) → next_at list at ≡ Ok (Some c)
      → rest_from list at ≡ before c (rest_from list (at + width_of c))
  unfolding reading_from followed
  rest_more at c e =
      let w : 1 ≤ width_of c = width_positive c in
      let i : at + width_of c ≤ length list = next_inside list at c e in
      let f : length list - at ≡ suc (width_of c - 1 + (length list - (at + width_of c))) = omega arith in
      rw (f, e, many (width_of c - 1) (at + width_of c))

  pub rest_ends : (at : ℕ) → next_at list at ≡ Ok None → at + 1 ≡ length list → rest_from list at ≡ commands []
  unfolding reading_from followed
  rest_ends at e h =
      let f : length list - at ≡ suc 0 = omega arith in
      rw (f, e, eq-eqb _ _ h)

  pub rest_goes_on : (at : ℕ) → next_at list at ≡ Ok None → (at + 1 ≡ length list → ⊥) → rest_from list at ≡ malformed
  unfolding reading_from followed
  rest_goes_on at e h = go (length list - at)
    where
      go : (n : ℕ) → reading_from n list at ≡ malformed
      go zero = refl
      go (suc n) = rw (e, ne_eqb _ _ h)

  pub rest_unreadable : (at : ℕ) (k : LoadRefusal) → next_at list at ≡ Err k → rest_from list at ≡ malformed
  unfolding reading_from followed
  rest_unreadable at k e = go (length list - at)
    where
      go : (n : ℕ) → reading_from n list at ≡ malformed
      go zero = refl
      go (suc n) = rw e

  pub rest_all : rest_from list 0 ≡ reading_of list
  unfolding reading_of
  rest_all = rw sub-zero

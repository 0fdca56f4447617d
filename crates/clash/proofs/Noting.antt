-- Notes put by put. A later note takes the place of an earlier one of the same list, so that at each
-- address the last put counts.
use Prim.Native.Nat.{ℕ, suc, ◌+◌, ◌%◌, ◌<◌}
use mathlib.Core.Path.{◌≡◌, refl, sym, ◌∙◌, ap}
use mathlib.Core.Bool.{Bool, true, false, ◌||◌}
use mathlib.Core.List.{List, [], ◌∷◌, ◌++◌}
use native.Mathlib.Decide.{ℕ_discrete}
use native.Mathlib.Omega.{arith}
use borrow.Author.Tests.{ltb-true, eq-eqb, ne_eqb}
use lib.Dec.{ltb, eqb}
use lib.ListN.{length, set, length-set, replicate, drop, get_or}
use lib.Seq.{drop-cons, drop-length, get_or-set_same, get_or-set_other}
use Rattle.std.specs.Prelude.{Option, Some, None, Ok}
use Rattle.machine.specs.Words.{pick, byte_at}
use Rattle.machine.specs.Map.{RealWrites, real_writes_from}
use Rattle.lists.specs.declared.Command.{Command}
use Rattle.lists.specs.Lists.{width_of, next_at, put_bytes, place_after, later_or, last_put}
use Rattle.lists.specs.Refusals.{all_inside}
use Rattle.lists.proofs.Reading.{rest_from}
use Rattle.lists.proofs.Left.{sound_from, left_from, more_left}
use Rattle.lists.proofs.Puts.{and_left, and_right}
use Rattle.clash.specs.declared.Half.{Half}
use Rattle.clash.specs.declared.Turn.{Turn}
use Rattle.clash.specs.declared.Turn.TheVariants.{First, Second}
use Rattle.clash.specs.Notes.{half_of, compared, note_of, noted}

-- ---- One note

-- the first list's note is kept beside the second's
compared-rest : (f v : ℕ) → f < 32 → compared f v % 32 ≡ f
unfolding compared
compared-rest f v h = go (eqb f 0 || eqb f (v + 1))
  where
    go : (b : Bool) → pick b f (f + 32) % 32 ≡ f
    go true = omega arith
    go false = omega arith

-- a later note counts alone
note_again : (t : Turn) (x v w : ℕ) → note_of t (note_of t x v) w ≡ note_of t x w
note_again First x v w = refl
note_again Second x v w = rw (compared-rest (x % 32) v (omega arith))

-- ---- Puts one after another

pub none_left : {ws : RealWrites} → ws ≡ [] → (h : Half) (t : Turn) (s : List ℕ) → noted h t ws s ≡ s
unfolding noted
none_left e h t s = rw e

module _ (h : Half) (t : Turn) where
  pub noted_append : (x y : RealWrites) (s : List ℕ) → noted h t (x ++ y) s ≡ noted h t y (noted h t x s)
  unfolding noted
  noted_append [] y s = refl
  noted_append (w ∷ ws) y s = noted_append ws y _

  pub noted-length : (ws : RealWrites) (s : List ℕ) → length (noted h t ws s) ≡ length s
  unfolding noted
  noted-length [] s = refl
  noted-length (w ∷ ws) s = noted-length ws _ ∙ length-set s _ _

  -- a byte's note
  pub noted_byte : (a b : ℕ) (s : List ℕ)
      → noted h t (real_writes_from a (replicate 1 b)) s ≡ set s a (note_of t (byte_at s a) (half_of h b))
  unfolding noted real_writes_from
  noted_byte a b s = refl

  -- byte i of a row, and those behind it
  pub noted-next : (bs : List ℕ) (i a : ℕ) (s : List ℕ) → i < length bs
      → noted h t (real_writes_from (a + i) (drop i bs)) s
      ≡ noted h t (real_writes_from (a + (i + 1)) (drop (i + 1) bs))
      (noted h t (real_writes_from (a + i) (replicate 1 (get_or bs i 0))) s)
  unfolding noted real_writes_from
  noted-next bs i a s l =
      let e : i + 1 ≡ suc i = omega arith in
      let f : a + (i + 1) ≡ suc (a + i) = omega arith in
      rw (drop-cons bs i 0 l, f, e)

  pub none-noted : (bs : List ℕ) (i a : ℕ) (s : List ℕ) → length bs ≡ i
      → noted h t (real_writes_from (a + i) (drop i bs)) s ≡ s
  unfolding noted real_writes_from
  none-noted bs i a s e = rw (← e, drop-length)

  -- a command of a list, and what is left behind it
  pub more-noted : (list : List ℕ) (at : ℕ) (c : Command) → next_at list at ≡ Ok (Some c) → (n place : ℕ) (s : List ℕ)
      → sound_from n place (rest_from list at) ≡ true
      → noted h t (left_from list place at) s
      ≡ noted h t (left_from list (place_after place c) (at + width_of c))
      (noted h t (real_writes_from place (put_bytes c)) s)
  more-noted list at c here n place s l = rw (more_left list at c here n place l, noted_append)

  -- ---- What they leave at an address

  -- the note after the last put there, if there is one
  abbrev pub after_last : Option ℕ → ℕ → ℕ
  after_last None x = x
  after_last (Some b) x = note_of t x (half_of h b)

  one_more : (s : List ℕ) (i x a : ℕ) (o : Option ℕ) → i < length s → Dec (i ≡ a)
      → after_last o (byte_at (set s i (note_of t (byte_at s i) (half_of h x))) a)
      ≡ after_last (later_or o (pick (eqb i a) (Some x) None)) (byte_at s a)
  one_more s i x a None l (yes e) = rw (eq-eqb i a e, ← e) (get_or-set_same s i _ 0 l)
  one_more s i x a None l (no e) = rw (ne_eqb i a e) (get_or-set_other s i a _ 0 (λ q. e (sym q)))
  one_more s i x a (Some b) l (yes e) =
      rw (← e)
      (ap (λ (z : ℕ). note_of t z (half_of h b)) (get_or-set_same s i _ 0 l)
      ∙ note_again t (byte_at s i) (half_of h x) (half_of h b))
  one_more s i x a (Some b) l (no e) =
      ap (λ (z : ℕ). note_of t z (half_of h b)) (get_or-set_other s i a _ 0 (λ q. e (sym q)))

  pub noted_last : (ws : RealWrites) (s : List ℕ) (a : ℕ) → all_inside (length s) ws ≡ true
      → byte_at (noted h t ws s) a ≡ after_last (last_put a ws) (byte_at s a)
  unfolding all_inside noted last_put
  noted_last [] s a l = refl
  noted_last (w ∷ ws) s a l =
      noted_last ws (set s w.0.0 (note_of t (byte_at s w.0.0) (half_of h w.1))) a
      (rw length-set (and_right (ltb w.0.0 (length s)) (all_inside (length s) ws) l))
      ∙ one_more s w.0.0 w.1 a (last_put a ws)
      (ltb-true w.0.0 (length s) (and_left (ltb w.0.0 (length s)) (all_inside (length s) ws) l))
      (ℕ_discrete w.0.0 a)

-- What the notes of a round say: one of them is 32 or more exactly where the lists differ in this half; and
-- the lists agree exactly where they agree in both halves.
use Prim.Native.Nat.{ℕ, zero, suc, ◌+◌, ◌/◌, ◌%◌, ◌≤◌, ◌<◌}
use mathlib.Core.Path.{◌≡◌, refl, sym, ◌∙◌, ap}
use mathlib.Core.Bool.{Bool, true, false, not, ◌&&◌, ◌||◌}
use mathlib.Core.List.{List, ◌∷◌, ◌++◌, append-nil}
use Rattle.std.specs.Prelude.{Option, Some, None}
use native.Mathlib.Decide.{ℕ_discrete}
use native.Mathlib.Omega.{arith}
use borrow.Author.Tests.{le-leb, lt-leb, eq-eqb, ne_eqb}
use lib.Dec.{leb, eqb}
use native.Mathlib.Nat.{zero-add, add-zero, le_refl}
use lib.ListN.{length, replicate, length-replicate, take, drop}
use lib.Seq.{get_or-append-add, get_or-drop, length-take-le, sets, sets-eq, drop-length}
use Rattle.machine.specs.Words.{pick, byte_at}
use Rattle.machine.specs.Map.{RealWrites}
use Rattle.lists.specs.Lists.{puts_of, last_put}
use Rattle.lists.specs.Refusals.{all_inside}
use Rattle.lists.specs.Format.{AllBytes}
use Rattle.lists.proofs.PutBytes.{last_put_byte}
use Rattle.load.specs.Judged.{Sound}
use Rattle.clash.specs.declared.Half.{Half}
use Rattle.clash.specs.declared.Half.TheVariants.{High, Low}
use Rattle.clash.specs.declared.Turn.TheVariants.{First, Second}
use Rattle.clash.specs.Clashes.{same_last, agree, cleared}
use Rattle.clash.specs.Notes.{half_of, same_half, agree_by, compared, noted, found_below}
use Rattle.clash.proofs.Noting.{noted-length, after_last, noted_last}

-- ---- The two halves

half_small : (h : Half) (b : ℕ) → b < 256 → half_of h b < 16
half_small High b l = omega arith
half_small Low b l = omega arith

halves_equal : (b c : ℕ) → eqb b c ≡ (eqb (b / 16) (c / 16) && eqb (b % 16) (c % 16))
halves_equal b c = go (ℕ_discrete (b / 16) (c / 16)) (ℕ_discrete (b % 16) (c % 16))
  where
    go : Dec (b / 16 ≡ c / 16) → Dec (b % 16 ≡ c % 16)
        → eqb b c ≡ (eqb (b / 16) (c / 16) && eqb (b % 16) (c % 16))
    go (yes e) (yes f) = rw (eq-eqb _ _ e, eq-eqb _ _ f) (eq-eqb b c (omega arith))
    go (yes e) (no f) = rw (eq-eqb _ _ e, ne_eqb _ _ f) (ne_eqb b c (λ q. f (ap (λ (z : ℕ). z % 16) q)))
    go (no e) f = rw (ne_eqb _ _ e) (ne_eqb b c (λ q. e (ap (λ (z : ℕ). z / 16) q)))

same_halves : (x y : Option ℕ) → same_last x y ≡ (same_half High x y && same_half Low x y)
same_halves (Some b) (Some c) = halves_equal b c
same_halves (Some b) None = refl
same_halves None (Some c) = refl
same_halves None None = refl

regroup : (a b c d : Bool) → ((a && b) && (c && d)) ≡ ((a && c) && (b && d))
regroup true true c d = refl
regroup true false true d = refl
regroup true false false d = refl
regroup false b c d = refl

agree_halves : (n : ℕ) (x y : RealWrites) → agree n x y ≡ (agree_by High n x y && agree_by Low n x y)
unfolding agree agree_by
agree_halves zero x y = refl
agree_halves (suc a) x y =
    rw (agree_halves a x y, same_halves (last_put a x) (last_put a y))
    (regroup (same_half High (last_put a x) (last_put a y)) (same_half Low (last_put a x) (last_put a y)) (agree_by High a x y)
    (agree_by Low a x y))

-- the round for the high halves finds a clash, or the one for the low halves decides

pub differ_high : (n : ℕ) (x y : RealWrites) → not (agree_by High n x y) ≡ true → true ≡ not (agree n x y)
differ_high n x y h = rw (agree_halves n x y) (go (agree_by High n x y) (agree_by Low n x y) h)
  where
    go : (a b : Bool) → not a ≡ true → true ≡ not (a && b)
    go true b e = cc
    go false b e = refl

pub differ_low : (n : ℕ) (x y : RealWrites) → not (agree_by High n x y) ≡ false
    → not (agree_by Low n x y) ≡ not (agree n x y)
differ_low n x y h = rw (agree_halves n x y) (go (agree_by High n x y) (agree_by Low n x y) h)
  where
    go : (a b : Bool) → not a ≡ false → not b ≡ not (a && b)
    go true b e = refl
    go false b e = cc

-- ---- The notes

-- of two bytes
compared-told : (v w : ℕ) → v < 16 → leb 32 (compared ((v + 1) % 32) w) ≡ not (eqb v w)
unfolding compared
compared-told v w l = rw small (go (ℕ_discrete v w))
  where
    small : (v + 1) % 32 ≡ v + 1
    small = omega arith

    some_note : eqb (v + 1) 0 ≡ false
    some_note = ne_eqb (v + 1) 0 (λ e. omega arith)

    go : Dec (v ≡ w) → leb 32 (pick (eqb (v + 1) 0 || eqb (v + 1) (w + 1)) (v + 1) (v + 1 + 32)) ≡ not (eqb v w)
    go (yes e) =
        rw (some_note, eq-eqb (v + 1) (w + 1) (omega arith), eq-eqb v w e)
        (lt-leb 32 (v + 1) (omega arith))
    go (no e) =
        rw (some_note, ne_eqb (v + 1) (w + 1) (λ q. e (omega arith)), ne_eqb v w e)
        (le-leb 32 (v + 1 + 32) (omega arith))

-- of the last bytes that two lists put at an address
told : (h : Half) (x y : Option ℕ) → ((b : ℕ) → x ≡ Some b → b < 256)
    → leb 32 (after_last h Second y (after_last h First x 0)) ≡ not (same_half h x y)
unfolding compared
told h None None small = refl
told h None (Some c) small = refl
told h (Some b) None small = lt-leb 32 (half_of h b + 1) (omega (arith, half_small h b (small b refl)))
told h (Some b) (Some c) small = compared-told (half_of h b) (half_of h c) (half_small h b (small b refl))

not_and : (a b : Bool) → (not a || not b) ≡ not (a && b)
not_and true b = refl
not_and false b = refl

uncleared : (s : List ℕ) (i : ℕ) → byte_at (replicate i 0 ++ drop i s) i ≡ byte_at s i
uncleared s i =
    ap (byte_at (replicate i 0 ++ drop i s)) (sym (add-zero i))
    ∙ simp length-replicate at (get_or-append-add (replicate i 0) (drop i s) 0 0)
    ∙ get_or-drop i s 0 0
    ∙ ap (byte_at s) (add-zero i)

or_swap : (a b : Bool) → (a || b) ≡ (b || a)
or_swap true true = refl
or_swap true false = refl
or_swap false true = refl
or_swap false false = refl

found_told : (h : Half) (x y : RealWrites) (s : List ℕ)
    → ((a : ℕ) → leb 32 (byte_at s a) ≡ not (same_half h (last_put a x) (last_put a y)))
    → (n : ℕ) → found_below n s ≡ not (agree_by h n x y)
unfolding found_below agree_by
found_told h x y s e zero = refl
found_told h x y s e (suc a) =
    rw (e a, found_told h x y s e a) (not_and (same_half h (last_put a x) (last_put a y)) (agree_by h a x y))

-- the notes up to one, of which those before it are cleared
pub found_next : (s : List ℕ) (i : ℕ) (found : Bool) → found ≡ found_below i s
    → (found || leb 32 (byte_at (replicate i 0 ++ drop i s) i)) ≡ found_below (i + 1) s
unfolding found_below
found_next s i found h =
    let e : i + 1 ≡ suc i = omega arith in
    rw (e, h, uncleared s i) (or_swap (found_below i s) (leb 32 (byte_at s i)))

zero_byte : (n a : ℕ) → byte_at (replicate n 0) a ≡ 0
zero_byte zero a = refl
zero_byte (suc n) zero = refl
zero_byte (suc n) (suc a) = zero_byte n a

-- both lists noted on zeros
pub round_told : (h : Half) (n : ℕ) (x y : RealWrites)
    → ((a b : ℕ) → last_put a x ≡ Some b → b < 256) → all_inside n x ≡ true → all_inside n y ≡ true
    → found_below n (noted h Second y (noted h First x (replicate n 0))) ≡ not (agree_by h n x y)
round_told h n x y small i j = found_told h x y _ at_each n
  where
    at_each : (a : ℕ)
        → leb 32 (byte_at (noted h Second y (noted h First x (replicate n 0))) a)
        ≡ not (same_half h (last_put a x) (last_put a y))
    at_each a =
        let e : byte_at (noted h First x (replicate n 0)) a ≡ after_last h First (last_put a x) 0 =
        noted_last h First x (replicate n 0) a (rw length-replicate i)
        ∙ ap (after_last h First (last_put a x)) (zero_byte n a) in
        let f : byte_at (noted h Second y (noted h First x (replicate n 0))) a
        ≡ after_last h Second (last_put a y) (byte_at (noted h First x (replicate n 0)) a) =
        noted_last h Second y (noted h First x (replicate n 0)) a (rw (noted-length, length-replicate) j) in
        rw (f, e) (told h (last_put a x) (last_put a y) (small a))

-- on a scratch of zeros
module _ (h : Half) (s first second : List ℕ) (zeros : s ≡ cleared s) where
  pub round_found : Sound s first → Sound s second → AllBytes first
      → found_below (length (noted h Second (puts_of second) (noted h First (puts_of first) s)))
      (noted h Second (puts_of second) (noted h First (puts_of first) s))
      ≡ not (agree_by h (length s) (puts_of first) (puts_of second))
  round_found x y all =
      rw (noted-length, noted-length)
      (ap (λ (z : List ℕ). found_below (length s) (noted h Second (puts_of second) (noted h First (puts_of first) z)))
      zeros
      ∙ round_told h (length s) (puts_of first) (puts_of second) (last_put_byte first all) x.inside y.inside)

  pub round_clears : cleared (noted h Second (puts_of second) (noted h First (puts_of first) s)) ≡ s
  round_clears = rw (noted-length, noted-length) (sym zeros)

-- ---- The scratch before the rounds

pub filled : (s : List ℕ) → sets s 0 (replicate (length s) 0) ≡ cleared s
filled s =
    sets-eq (replicate (length s) 0) s 0 (rw (length-replicate, zero-add) (le_refl (length s)))
    ∙ rw (length-replicate, zero-add, drop-length, append-nil)

take_zeros : (n m : ℕ) → n ≤ m → take {A = ℕ} n (replicate m 0) ≡ replicate n 0
take_zeros zero m l = refl
take_zeros (suc n) zero l = absurd (omega arith)
take_zeros (suc n) (suc m) l = ap (λ (r : List ℕ). 0 ∷ r) (take_zeros n m (omega arith))

-- a part of a cleared scratch
pub part_length : (n : ℕ) (s t : List ℕ) → t ≡ cleared s → n ≤ length s → length (take n t) ≡ n
part_length n s t e l = length-take-le n t (rw (e, length-replicate) l)

pub part_zeros : (n : ℕ) (s t : List ℕ) → t ≡ cleared s → n ≤ length s → take n t ≡ cleared (take n t)
part_zeros n s t e l =
    let z : take n t ≡ replicate n 0 = rw e (take_zeros n (length s) l) in
    rw (z, length-replicate)

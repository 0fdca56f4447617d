-- Puts into a memory: which lie inside it, and what they leave at each address.
use Prim.Native.Nat.{ℕ, suc, ◌+◌, ◌≤◌, ◌<◌}
use mathlib.Core.Path.{◌≡◌, refl, sym, ◌∙◌}
use mathlib.Core.Logic.{◌≢◌}
use mathlib.Core.Bool.{Bool, true, false, ◌&&◌}
use mathlib.Core.List.{List, [], ◌∷◌, ◌++◌}
use Rattle.std.specs.Prelude.{Option, None, Some}
use native.Mathlib.Decide.{ℕ_discrete, dec_le}
use native.Mathlib.Omega.{arith}
use borrow.Author.Tests.{lt-ltb, le-ltb, ltb-true, le-leb, lt-leb, leb-true, eq-eqb, ne_eqb}
use lib.Dec.{ltb, leb, eqb}
use lib.ListN.{length, set, length-set}
use lib.Seq.{get_or-set_same, get_or-set_other}
use Rattle.machine.specs.Words.{pick, Memory, byte_at}
use Rattle.machine.specs.Map.{RealWrites, real_writes_from, commit}
use Rattle.lists.specs.Lists.{later_or, last_put, or_old}
use Rattle.lists.specs.Refusals.{all_inside}

-- ---- Tests that are joined

pub and_later : (b c d : Bool) → (b && (c && d)) ≡ ((b && c) && d)
and_later true c d = refl
and_later false c d = refl

pub and_false : (b : Bool) → (b && false) ≡ false
and_false true = refl
and_false false = refl

pub and_true : (b : Bool) → (b && true) ≡ b
and_true true = refl
and_true false = refl

pub and_left : (a b : Bool) → (a && b) ≡ true → a ≡ true
and_left true b h = refl
and_left false b h = h

pub and_right : (a b : Bool) → (a && b) ≡ true → b ≡ true
and_right true b h = h
and_right false b h = cc

-- ---- Puts inside a memory

pub inside_append : (n : ℕ) (x y : RealWrites) → all_inside n (x ++ y) ≡ (all_inside n x && all_inside n y)
unfolding all_inside
inside_append n [] y = refl
inside_append n (w ∷ ws) y = rw (inside_append n ws y) (and_later (ltb w.0.0 n) (all_inside n ws) (all_inside n y))

-- bytes in a row are inside where the last of them is
pub row_inside : (n a : ℕ) (bs : List ℕ) → a + length bs ≤ n → all_inside n (real_writes_from a bs) ≡ true
unfolding all_inside real_writes_from
row_inside n a [] h = refl
row_inside n a (b ∷ bs) h = rw (lt-ltb a n (omega arith), row_inside n (suc a) bs (omega arith))

pub row_outside : (n a b : ℕ) (bs : List ℕ) → n < a + length (b ∷ bs) → all_inside n (real_writes_from a (b ∷ bs)) ≡ false
unfolding all_inside real_writes_from
row_outside n a b [] h = rw (le-ltb a n (omega arith))
row_outside n a b (d ∷ bs) h = rw (row_outside n (suc a) d bs (omega arith)) (and_false (ltb a n))

-- by place and count
pub none_inside : (n a : ℕ) (bs : List ℕ) → length bs ≡ 0 → all_inside n (real_writes_from a bs) ≡ true
unfolding all_inside real_writes_from
none_inside n a [] h = refl
none_inside n a (b ∷ bs) h = absurd (omega arith)

pub some_inside : (n a : ℕ) (bs : List ℕ) → length bs ≢ 0 → all_inside n (real_writes_from a bs) ≡ leb (a + length bs) n
some_inside n a [] h = absurd (h refl)
some_inside n a (b ∷ bs) h = go (dec_le (a + length (b ∷ bs)) n)
  where
    go : Dec (a + length (b ∷ bs) ≤ n) → all_inside n (real_writes_from a (b ∷ bs)) ≡ leb (a + length (b ∷ bs)) n
    go (yes l) = row_inside n a (b ∷ bs) l ∙ sym (le-leb _ _ l)
    go (no l) = row_outside n a b bs (omega arith) ∙ sym (lt-leb (a + length (b ∷ bs)) n (omega arith))

-- where it fits, the place after it has room in an address
pub place_small : (n place : ℕ) (bs : List ℕ) → n < 0x1_0000_0000 → place < 0x1_0000_0000
    → all_inside n (real_writes_from place bs) ≡ true → place + length bs < 0x1_0000_0000
place_small n place bs l h e = go (ℕ_discrete (length bs) 0)
  where
    go : Dec (length bs ≡ 0) → place + length bs < 0x1_0000_0000
    go (yes z) = omega arith
    go (no z) = omega (arith, leb-true (place + length bs) n (sym (some_inside n place bs z) ∙ e))

-- ---- What puts leave

pub commit_append : (x y : RealWrites) (m : Memory) → commit (x ++ y) m ≡ commit y (commit x m)
unfolding commit
commit_append [] y m = refl
commit_append (w ∷ ws) y m = commit_append ws y (set m w.0.0 w.1)

-- what a put and those after it leave at an address
one_more : (m : Memory) (i x a : ℕ) (o : Option ℕ) → i < length m → Dec (i ≡ a)
    → or_old o (byte_at (set m i x) a) ≡ or_old (later_or o (pick (eqb i a) (Some x) None)) (byte_at m a)
one_more m i x a (Some b) h d = refl
one_more m i x a None h (yes e) = rw (eq-eqb i a e, ← e) (get_or-set_same m i x 0 h)
one_more m i x a None h (no e) = rw (ne_eqb i a e) (get_or-set_other m i a x 0 (λ q. e (sym q)))

pub commit_last : (ws : RealWrites) (m : Memory) (a : ℕ) → all_inside (length m) ws ≡ true
    → byte_at (commit ws m) a ≡ or_old (last_put a ws) (byte_at m a)
unfolding all_inside commit last_put
commit_last [] m a h = refl
commit_last (w ∷ ws) m a h =
    commit_last ws (set m w.0.0 w.1) a
    (rw length-set (and_right (ltb w.0.0 (length m)) (all_inside (length m) ws) h))
    ∙ one_more m w.0.0 w.1 a (last_put a ws)
    (ltb-true w.0.0 (length m) (and_left (ltb w.0.0 (length m)) (all_inside (length m) ws) h))
    (ℕ_discrete w.0.0 a)

-- ---- The last put at an address

later_later : (x y z : Option ℕ) → later_or (later_or x y) z ≡ later_or x (later_or y z)
later_later (Some b) y z = refl
later_later None y z = refl

later_none : (x : Option ℕ) → later_or x None ≡ x
later_none (Some b) = refl
later_none None = refl

-- of some puts and others after them
pub last_append : (a : ℕ) (x y : RealWrites) → last_put a (x ++ y) ≡ later_or (last_put a y) (last_put a x)
unfolding last_put
last_append a [] y = sym (later_none (last_put a y))
last_append a (w ∷ ws) y =
    rw (last_append a ws y) (later_later (last_put a y) (last_put a ws) (pick (eqb w.0.0 a) (Some w.1) None))

-- an address outside has none
pub none_outside : (n a : ℕ) (ws : RealWrites) → all_inside n ws ≡ true → n ≤ a → last_put a ws ≡ None
unfolding all_inside last_put
none_outside n a [] h l = refl
none_outside n a (w ∷ ws) h l =
    let i : w.0.0 < n = ltb-true w.0.0 n (and_left (ltb w.0.0 n) (all_inside n ws) h) in
    rw (
      none_outside n a ws (and_right (ltb w.0.0 n) (all_inside n ws) h) l,
      ne_eqb w.0.0 a (λ e. omega arith),
    )

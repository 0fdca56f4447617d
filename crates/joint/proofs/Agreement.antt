-- Two lists that agree, address by address; either order of their puts then leaves the same memory.
use Prim.Native.Nat.{ℕ, zero, suc, ◌<◌}
use mathlib.Core.Path.{◌≡◌, refl, sym, ◌∙◌, ap}
use mathlib.Core.Bool.{Bool, true, false, ◌&&◌}
use mathlib.Core.List.{List, [], ◌++◌}
use Rattle.std.specs.Prelude.{Option, Some, None}
use native.Mathlib.Decide.{ℕ_discrete, dec_lt}
use native.Mathlib.Omega.{arith}
use borrow.Author.Tests.{eq-eqb, ne_eqb, eqb-true}
use lib.Dec.{eqb}
use lib.ListN.{length}
use lib.Seq.{ext_get_or}
use Rattle.machine.specs.Words.{Memory, byte_at}
use Rattle.machine.specs.Map.{RealWrites, commit}
use Rattle.machine.proofs.Writes.{commit-length}
use Rattle.lists.specs.Lists.{puts_of, later_or, last_put, or_old}
use Rattle.lists.specs.Refusals.{all_inside}
use Rattle.lists.proofs.Puts.{and_left, and_right, inside_append, commit_last, last_append, none_outside}
use Rattle.clash.specs.Clashes.{same_last, agree}
use Rattle.joint.specs.Effects.{Unequal}

-- ---- Two last bytes

same_swap : (x y : Option ℕ) → same_last x y ≡ same_last y x
same_swap (Some b) (Some c) = go (ℕ_discrete b c)
  where
    go : Dec (b ≡ c) → eqb b c ≡ eqb c b
    go (yes e) = eq-eqb b c e ∙ sym (eq-eqb c b (sym e))
    go (no e) = ne_eqb b c e ∙ sym (ne_eqb c b (λ q. e (sym q)))
same_swap (Some b) None = refl
same_swap None (Some c) = refl
same_swap None None = refl

same_itself : (x : Option ℕ) → same_last x x ≡ true
same_itself (Some b) = eq-eqb b b refl
same_itself None = refl

same_later : (x y : Option ℕ) → same_last x y ≡ true → later_or x y ≡ later_or y x
same_later (Some b) (Some c) h = ap Some (eqb-true b c h)
same_later (Some b) None h = refl
same_later None (Some c) h = refl
same_later None None h = refl

later_itself : (x : Option ℕ) → later_or x x ≡ x
later_itself (Some b) = refl
later_itself None = refl

-- ---- At every address

pub agree_swap : (n : ℕ) (x y : RealWrites) → agree n x y ≡ agree n y x
unfolding agree
agree_swap zero x y = refl
agree_swap (suc a) x y = rw (same_swap (last_put a x) (last_put a y), agree_swap a x y)

pub agree_itself : (n : ℕ) (x : RealWrites) → agree n x x ≡ true
unfolding agree
agree_itself zero x = refl
agree_itself (suc a) x = rw (agree_itself a x, same_itself (last_put a x))

pub agree-none : (n : ℕ) (x : RealWrites) → agree n x [] ≡ true
unfolding agree last_put
agree-none zero x = refl
agree-none (suc a) x = rw (agree-none a x, same_swap (last_put a x) None)

-- below n, where it says so
agree_below : (n : ℕ) (x y : RealWrites) → agree n x y ≡ true → (a : ℕ) → a < n
    → same_last (last_put a x) (last_put a y) ≡ true
unfolding agree
agree_below zero x y h a l = absurd (omega arith)
agree_below (suc d) x y h a l =
    go (ℕ_discrete a d)
    (agree_below d x y (and_right (same_last (last_put d x) (last_put d y)) (agree d x y) h) a)
  where
    go : Dec (a ≡ d) → (a < d → same_last (last_put a x) (last_put a y) ≡ true)
        → same_last (last_put a x) (last_put a y) ≡ true
    go (yes e) below = rw e (and_left (same_last (last_put d x) (last_put d y)) (agree d x y) h)
    go (no e) below = below (omega arith)

-- and everywhere, where the first puts inside
pub agree_at : (n : ℕ) (x y : RealWrites) → all_inside n x ≡ true → agree n x y ≡ true → (a : ℕ)
    → same_last (last_put a x) (last_put a y) ≡ true
agree_at n x y i h a = go (dec_lt a n)
  where
    go : Dec (a < n) → same_last (last_put a x) (last_put a y) ≡ true
    go (yes l) = agree_below n x y h a l
    go (no l) = rw (none_outside n a x i (omega arith))

-- at an address, or below it
unequal_here : (a : ℕ) (first second : List ℕ)
    → (o : Option ℕ) → last_put a (puts_of first) ≡ o → (p : Option ℕ) → last_put a (puts_of second) ≡ p
    → (same_last o p && agree a (puts_of first) (puts_of second)) ≡ false
    → (agree a (puts_of first) (puts_of second) ≡ false → Unequal first second) → Unequal first second
unequal_here a first second (Some b) e (Some c) f k below = go (ℕ_discrete b c)
  where
    go : Dec (b ≡ c) → Unequal first second
    go (yes q) = below (rw (eq-eqb b c q) at k)
    go (no q) = record { address = a; one = b; other = c; first_puts = e; second_puts = f; unequal = q }
unequal_here a first second (Some b) e None f k below = below k
unequal_here a first second None e p f k below = below k

-- where they do not, an address with two unequal bytes
pub some_unequal : (n : ℕ) (first second : List ℕ) → agree n (puts_of first) (puts_of second) ≡ false
    → Unequal first second
unfolding agree
some_unequal zero first second h = let z : ◌≡◌ {A = ℕ} 0 1 = cc in absurd (omega arith)
some_unequal (suc a) first second h =
    unequal_here a first second (last_put a (puts_of first)) refl (last_put a (puts_of second)) refl h (some_unequal a first second)

-- and the other way, where the first puts inside
pub unequal_found : (n : ℕ) (first second : List ℕ) → all_inside n (puts_of first) ≡ true → Unequal first second
    → agree n (puts_of first) (puts_of second) ≡ false
unequal_found n first second i u = go (agree n (puts_of first) (puts_of second)) refl
  where
    go : (b : Bool) → agree n (puts_of first) (puts_of second) ≡ b → b ≡ false
    go false e = refl
    go true e =
        let k : same_last (Some u.one) (Some u.other) ≡ true =
        rw (u.first_puts, u.second_puts) at (agree_at n (puts_of first) (puts_of second) i e u.address) in
        absurd (u.unequal (eqb-true u.one u.other k))

-- ---- What both leave

module _ (m : Memory) (x y : RealWrites) (i : all_inside (length m) x ≡ true) (j : all_inside (length m) y ≡ true) where
  pub both_last : (a : ℕ) → byte_at (commit (x ++ y) m) a ≡ or_old (later_or (last_put a y) (last_put a x)) (byte_at m a)
  both_last a =
      commit_last (x ++ y) m a (rw (inside_append, i) j)
      ∙ ap (λ (o : Option ℕ). or_old o (byte_at m a)) (last_append a x y)

pub either_order : (m : Memory) (x y : RealWrites) → all_inside (length m) x ≡ true → all_inside (length m) y ≡ true
    → agree (length m) x y ≡ true → commit (y ++ x) m ≡ commit (x ++ y) m
either_order m x y i j h =
    ext_get_or 0 (commit (y ++ x) m) (commit (x ++ y) m) (commit-length (y ++ x) m ∙ sym (commit-length (x ++ y) m))
    (λ a l.
    both_last m y x j i a
    ∙ ap (λ (o : Option ℕ). or_old o (byte_at m a))
    (same_later (last_put a x) (last_put a y) (agree_at (length m) x y i h a))
    ∙ sym (both_last m x y i j a))

-- puts that are made twice
pub twice : (m : Memory) (x : RealWrites) → all_inside (length m) x ≡ true → commit (x ++ x) m ≡ commit x m
twice m x i =
    ext_get_or 0 (commit (x ++ x) m) (commit x m) (commit-length (x ++ x) m ∙ sym (commit-length x m))
    (λ a l.
    both_last m x x i i a
    ∙ ap (λ (o : Option ℕ). or_old o (byte_at m a)) (later_itself (last_put a x))
    ∙ sym (commit_last x m a i))

-- where they agree, the first one's last byte stands too
pub first_stands : (x y : Option ℕ) (b old : ℕ) → x ≡ Some b → same_last x y ≡ true → or_old (later_or y x) old ≡ b
first_stands x (Some c) b old e h = let k : same_last (Some b) (Some c) ≡ true = rw e at h in sym (eqb-true b c k)
first_stands x None b old e h = rw e

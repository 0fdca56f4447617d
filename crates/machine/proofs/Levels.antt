-- The pending set: the level that is due, one level down at a time, that it is pending, and that a
-- level fits beside the others.
use Prim.Native.Nat.{ℕ, zero, suc, ◌+◌, ◌-◌, ◌*◌, ◌/◌, ◌%◌, ◌^◌, ◌≤◌, ◌<◌}
use mathlib.Core.Path.{◌≡◌, refl, ap, ◌∙◌}
use mathlib.Core.Bool.{Bool, true, false, ◌&&◌, and-false}
use native.Mathlib.Nat.{zero-div, div-lt_iff_lt-mul, add-div_right}
use native.Mathlib.Decide.{dec_le}
use native.Mathlib.Omega.{arith}
use borrow.Author.Tests.{eq-eqb, ne_eqb, eqb-true}
use lib.Dec.{ltb, eqb}
use lib.Pow.{pow_pos, pow-add}
use Rattle.machine.specs.Words.{pick}
use Rattle.machine.specs.State.{is_pending}
use Rattle.machine.specs.Steps.{due}

due_step : (k p l : ℕ) → 0 < k → due k p l ≡ pick (is_pending p k && ltb l k) k (due (k - 1) p l)
unfolding due
due_step zero p l h = absurd (omega arith)
due_step (suc k) p l h = let e : suc k - 1 ≡ k = omega arith in rw e

module _ (k p l : ℕ) (some : 0 < k) where
  pub due_here : p / 2 ^ k % 2 ≡ 1 → ltb l k ≡ true → due k p l ≡ k
  unfolding is_pending
  due_here set above = due_step k p l some ∙ simp (eq-eqb _ _ set, above)

  pub due_free : (p / 2 ^ k % 2 ≡ 1 → ⊥) → due k p l ≡ due (k - 1) p l
  unfolding is_pending
  due_free free = due_step k p l some ∙ simp (ne_eqb _ _ free)

  pub due_held : ltb l k ≡ false → due k p l ≡ due (k - 1) p l
  due_held low = due_step k p l some ∙ simp (low, and-false)

-- where level k is not pending, p / 2 ^ k is even, so adding the level carries nothing over
pub level-fits : (n k p : ℕ) → k < n → p < 2 ^ n → (p / 2 ^ k % 2 ≡ 1 → ⊥) → p + 2 ^ k < 2 ^ n
level-fits n k p h small free =
    let j = n - (k + 1) in
    let size : 2 ^ n ≡ 2 * 2 ^ j * 2 ^ k = let e : n ≡ 1 + j + k = omega arith in
    ap (λ (i : ℕ). 2 ^ i) e ∙ simp (pow-add 2 (1 + j) k, pow-add 2 1 j) in
    let below : p / 2 ^ k < 2 * 2 ^ j = (div-lt_iff_lt-mul (pow_pos k)).1 (rw size at small) in
    let room : (p + 2 ^ k) / 2 ^ k < 2 * 2 ^ j = rw (add-div_right p (pow_pos k)) (omega arith) in
    rw size ((div-lt_iff_lt-mul (pow_pos k)).0 room)

pub due-none : (k l : ℕ) → due k 0 l ≡ 0
unfolding due is_pending
due-none zero l = refl
due-none (suc k) l = rw (zero-div (2 ^ suc k)) (due-none k l)

-- a level whose bit is set is no more than the set
set_below : (p k : ℕ) → p / 2 ^ k % 2 ≡ 1 → 2 ^ k ≤ p
set_below p k set = go (dec_le (2 ^ k) p)
  where
    go : Dec (2 ^ k ≤ p) → 2 ^ k ≤ p
    go (yes h) = h
    go (no f) = let few : p / 2 ^ k < 1 = (div-lt_iff_lt-mul (pow_pos k)).1 (omega arith) in absurd (omega arith)

-- the level that is due is pending
pub due_pending : (k p l : ℕ) → 0 < due k p l → 2 ^ due k p l ≤ p
unfolding due is_pending
due_pending zero p l h = absurd (omega arith)
due_pending (suc k) p l h = go (eqb (p / 2 ^ suc k % 2) 1) (ltb l (suc k)) refl (due_pending k p l) h
  where
    go : (b t : Bool) → eqb (p / 2 ^ suc k % 2) 1 ≡ b → (0 < due k p l → 2 ^ due k p l ≤ p)
        → 0 < pick (b && t) (suc k) (due k p l) → 2 ^ pick (b && t) (suc k) (due k p l) ≤ p
    go true true e below g = set_below p (suc k) (eqb-true _ _ e)
    go true false e below g = below g
    go false t e below g = below g

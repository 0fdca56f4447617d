-- An integer as the difference of two natural numbers, `Gap z a b`: sums, products, order and
-- residue of integers, as laws on natural numbers.
use Prim.Native.Nat.{ℕ, zero, suc, ◌+◌, ◌-◌, ◌*◌, ◌/◌, ◌%◌, ◌≤◌, ◌<◌}
use mathlib.Core.Path.{◌≡◌, refl, sym, ap, ◌∙◌}
use mathlib.Core.Bool.{Bool, true, false, cond}
use native.Mathlib.Nat.{mod-lt, mod-eq_of_lt, div-add-mod', add-mul-mod_self_right}
use native.Mathlib.Omega.{arith}
use native.Mathlib.Decide.{dec_le}
use borrow.Author.Tests.{le-leb, lt-leb, ltb-true, ltb-false}
use lib.Dec.{ltb, leb}
use lib.IntN.{ℤ, pos, negsuc, neg_ℤ, sub_ℕ, ◌+ℤ◌, ◌-ℤ◌, ◌*ℤ◌}
use lib.Signed.{le_z, lt_z}
use Rattle.machine.specs.Integers.{modulo}

-- ---- Tests

-- two tests of order agree where each order gives the other
pub leb_same : (a b c d : ℕ) → (a ≤ b → c ≤ d) → (c ≤ d → a ≤ b) → leb a b ≡ leb c d
leb_same a b c d f g = go (dec_le a b) (dec_le c d)
  where
    go : Dec (a ≤ b) → Dec (c ≤ d) → leb a b ≡ leb c d
    go (yes p) q = le-leb a b p ∙ sym (le-leb c d (f p))
    go (no p) (yes q) = absurd (p (g q))
    go (no p) (no q) = lt-leb a b (omega arith) ∙ sym (lt-leb c d (omega arith))

-- ---- The difference

abbrev pub Off : ℤ → ℕ → ℕ → Type 0
Off (pos n) a b = n + b ≡ a
Off (negsuc n) a b = a + suc n ≡ b

-- z is a - b
pub record Gap (z : ℤ) (a b : ℕ) : Type 0 where
  pub off : Off z a b

pub gap_sub : (a b : ℕ) → Gap (sub_ℕ a b) a b
gap_sub a b = go (ltb a b) refl
  where
    go : (t : Bool) → ltb a b ≡ t → Gap (cond t (negsuc (b - suc a)) (pos (a - b))) a b
    go true e = let h : a < b = ltb-true a b e in omega arith
    go false e = let h : b ≤ a = ltb-false a b e in omega arith

pub gap_pos : (n : ℕ) → Gap (pos n) n 0
gap_pos n = omega arith

pub gap_shift : {z : ℤ} {a b : ℕ} (c d : ℕ) → Gap z a b → a + d ≡ c + b → Gap z c d
gap_shift {z = pos n} c d h e = omega arith
gap_shift {z = negsuc n} c d h e = omega arith

pub gap_same : {z w : ℤ} {a b c d : ℕ} → Gap z a b → Gap w c d → a + d ≡ c + b → z ≡ w
gap_same {z = pos m} {w = pos n} h k e = let q : m ≡ n = omega arith in ap pos q
gap_same {z = pos m} {w = negsuc n} h k e = absurd (omega arith)
gap_same {z = negsuc m} {w = pos n} h k e = absurd (omega arith)
gap_same {z = negsuc m} {w = negsuc n} h k e = let q : m ≡ n = omega arith in ap negsuc q

-- ---- Sums and products

pub gap_neg : {z : ℤ} {a b : ℕ} → Gap z a b → Gap (neg_ℤ z) b a
gap_neg {z = pos zero} h = omega arith
gap_neg {z = pos (suc n)} h = omega arith
gap_neg {z = negsuc n} h = omega arith

pub gap_add : {z w : ℤ} {a b c d : ℕ} → Gap z a b → Gap w c d → Gap (z +ℤ w) (a + c) (b + d)
gap_add {z = pos m} {w = pos n} h k = omega arith
gap_add {z = pos m} {w = negsuc n} {a} {b} {c} {d} h k = gap_shift (a + c) (b + d) (gap_sub m (suc n)) (omega arith)
gap_add {z = negsuc m} {w = pos n} {a} {b} {c} {d} h k = gap_shift (a + c) (b + d) (gap_sub n (suc m)) (omega arith)
gap_add {z = negsuc m} {w = negsuc n} h k = omega arith

pub gap_diff : {z w : ℤ} {a b c d : ℕ} → Gap z a b → Gap w c d → Gap (z -ℤ w) (a + d) (b + c)
gap_diff h k = gap_add h (gap_neg k)

pub gap_mul : {z w : ℤ} {a b c d : ℕ} → Gap z a b → Gap w c d → Gap (z *ℤ w) (a * c + b * d) (a * d + b * c)
gap_mul {z = pos m} {w = pos n} {a} {b} {c} {d} h k =
    gap_shift (a * c + b * d) (a * d + b * c) (gap_pos (m * n)) (rw (← h.off, ← k.off) (omega arith))
gap_mul {z = pos m} {w = negsuc n} {a} {b} {c} {d} h k =
    gap_shift (a * c + b * d) (a * d + b * c) (gap_neg (gap_pos (m * suc n))) (rw (← h.off, ← k.off) (omega arith))
gap_mul {z = negsuc m} {w = pos n} {a} {b} {c} {d} h k =
    gap_shift (a * c + b * d) (a * d + b * c) (gap_neg (gap_pos (suc m * n))) (rw (← h.off, ← k.off) (omega arith))
gap_mul {z = negsuc m} {w = negsuc n} {a} {b} {c} {d} h k =
    gap_shift (a * c + b * d) (a * d + b * c) (gap_pos (suc m * suc n)) (rw (← h.off, ← k.off) (omega arith))

-- ---- Order

pub gap_le_z : {z w : ℤ} {a b c d : ℕ} → Gap z a b → Gap w c d → le_z z w ≡ leb (a + d) (c + b)
gap_le_z {z = pos m} {w = pos n} {a} {b} {c} {d} h k = leb_same m n (a + d) (c + b) (omega arith) (omega arith)
gap_le_z {z = pos m} {w = negsuc n} {a} {b} {c} {d} h k = sym (lt-leb (a + d) (c + b) (omega arith))
gap_le_z {z = negsuc m} {w = pos n} {a} {b} {c} {d} h k = sym (le-leb (a + d) (c + b) (omega arith))
gap_le_z {z = negsuc m} {w = negsuc n} {a} {b} {c} {d} h k = leb_same n m (a + d) (c + b) (omega arith) (omega arith)

pub gap_lt_z : {z w : ℤ} {a b c d : ℕ} → Gap z a b → Gap w c d → lt_z z w ≡ ltb (a + d) (c + b)
gap_lt_z {z = pos m} {w = pos n} {a} {b} {c} {d} h k = leb_same (suc m) n (suc (a + d)) (c + b) (omega arith)
    (omega arith)
gap_lt_z {z = pos m} {w = negsuc n} {a} {b} {c} {d} h k = sym (lt-leb (suc (a + d)) (c + b) (omega arith))
gap_lt_z {z = negsuc m} {w = pos n} {a} {b} {c} {d} h k = sym (le-leb (suc (a + d)) (c + b) (omega arith))
gap_lt_z {z = negsuc m} {w = negsuc n} {a} {b} {c} {d} h k = leb_same (suc n) m (suc (a + d)) (c + b) (omega arith)
    (omega arith)

-- ---- Residue

module _ (m : ℕ) (positive : 0 < m) where
  pub modulo_lt : (z : ℤ) → modulo m z < m
  unfolding modulo
  modulo_lt (pos n) = mod-lt n positive
  modulo_lt (negsuc n) = omega arith

  same_residue : (x y j k : ℕ) → x + j * m ≡ y + k * m → x % m ≡ y % m
  same_residue x y j k e = sym (add-mul-mod_self_right x j m) ∙ ap (λ (n : ℕ). n % m) e ∙ add-mul-mod_self_right y k m

  -- a multiple of m more or less leaves one residue
  pub gap_modulo : {z : ℤ} (a j k : ℕ) → Gap z (a + j * m) (k * m) → modulo m z ≡ a % m
  unfolding modulo
  gap_modulo {z = pos n} a j k h = same_residue n a k j h.off
  gap_modulo {z = negsuc n} a j k h =
      let e : n / m * m + n % m ≡ n = div-add-mod' n m in
      let l : n % m < m = mod-lt n positive in
      let small : m - 1 - n % m < m = omega arith in
      let q : m - 1 - n % m + k * m ≡ a + (j + n / m + 1) * m = omega arith in
      sym (mod-eq_of_lt small) ∙ same_residue (m - 1 - n % m) a k (j + n / m + 1) q

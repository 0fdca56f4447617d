-- CMP: its flags, and the order of two numbers, which is that of their values.
use Prim.Native.Nat.{ℕ, ◌+◌, ◌*◌, ◌≤◌, ◌<◌}
use mathlib.Core.Path.{◌≡◌, refl, sym, ap, ◌∙◌}
use mathlib.Core.Logic.{inl, inr}
use mathlib.Core.Bool.{Bool, true, false, ◌||◌, true≢false, and-false}
use native.Mathlib.Nat.{mul-pos, zero-mul, add-mul, mul_assoc, mul_comm, mul_left_comm, mul-le-mul_right}
use native.Mathlib.Nat.{mul-lt-mul_of_pos_right, lt_of_mul-lt-mul_right, le_of_mul-le-mul_right, eq_of_mul-eq-mul_right}
use native.Mathlib.Omega.{arith}
use native.Mathlib.Decide.{dec_lt, ℕ_discrete}
use borrow.Author.Tests.{lt-ltb, le-ltb, eq-eqb, ne_eqb}
use lib.Dec.{ltb, eqb}
use lib.Ieee.{Float, nan, inf, fin, up, down, below, level, lt, eq, is_nan}
use lib.Ieee.Exact.{HasValue}
use lib.Ieee.Fits.{down_pos}
use Rattle.machine.specs.State.{flag_n, flag_z, flag_v, flag_c}
use Rattle.machine.specs.Floats.{zero_float, infinite, number_flags, compared_floats}
use Rattle.machine.proofs.Results.{flags_tell}
use Rattle.floatlaws.specs.FloatingNumbers.{OneOf}

-- ---- The flags

pub nan_compared : (x y : Float) → (is_nan x || is_nan y) ≡ true → compared_floats x y ≡ 2
unfolding compared_floats lt eq is_nan
nan_compared nan y h = refl
nan_compared (inf s) nan h = refl
nan_compared (inf s) (inf t) h = cc
nan_compared (inf s) (fin t n d) h = cc
nan_compared (fin s m e) nan h = refl
nan_compared (fin s m e) (inf t) h = cc
nan_compared (fin s m e) (fin t n d) h = cc

pub compared-n : (x y : Float) → flag_n (compared_floats x y) ≡ lt x y
unfolding compared_floats
compared-n x y = (flags_tell (lt x y) (eq x y) (is_nan x || is_nan y) false).0

pub compared_z : (x y : Float) → flag_z (compared_floats x y) ≡ eq x y
unfolding compared_floats
compared_z x y = (flags_tell (lt x y) (eq x y) (is_nan x || is_nan y) false).1

pub compared_v : (x y : Float) → flag_v (compared_floats x y) ≡ (is_nan x || is_nan y)
unfolding compared_floats
compared_v x y = (flags_tell (lt x y) (eq x y) (is_nan x || is_nan y) false).2

pub compared_c : (x y : Float) → flag_c (compared_floats x y) ≡ false
unfolding compared_floats
compared_c x y = (flags_tell (lt x y) (eq x y) (is_nan x || is_nan y) false).3

-- ---- The order

-- ±a and ±b
one_of_signed : (s t : Bool) (a b : ℕ) → OneOf (below s a t b) (level s a t b) (below t b s a)
one_of_signed s t a b = go s t (dec_lt a b) (dec_lt b a)
  where
    go : (s t : Bool) → Dec (a < b) → Dec (b < a) → OneOf (below s a t b) (level s a t b) (below t b s a)
    go false false (yes p) q = inl (lt-ltb a b p, rw (ne_eqb a b (λ z. omega arith)), le-ltb b a (omega arith))
    go false false (no p) (yes q) = inr (inr (le-ltb a b (omega arith), rw (ne_eqb a b (λ z. omega arith)), lt-ltb b a q))
    go false false (no p) (no q) = inr (inl (le-ltb a b (omega arith), rw (eq-eqb a b (omega arith)), le-ltb b a (omega arith)))
    go true true (yes p) q = inr (inr (le-ltb b a (omega arith), rw (ne_eqb a b (λ z. omega arith)), lt-ltb a b p))
    go true true (no p) (yes q) = inl (lt-ltb b a q, rw (ne_eqb a b (λ z. omega arith)), le-ltb a b (omega arith))
    go true true (no p) (no q) = inr (inl (le-ltb b a (omega arith), rw (eq-eqb a b (omega arith)), le-ltb a b (omega arith)))
    go false true p q = apart (dec_lt 0 (b + a))
      where
        apart : Dec (0 < b + a) → OneOf (below false a true b) (level false a true b) (below true b false a)
        apart (yes h) = inr (inr (refl, differ (dec_lt 0 a), lt-ltb 0 (b + a) h))
          where
            differ : Dec (0 < a) → level false a true b ≡ false
            differ (yes u) = rw (ne_eqb a 0 (λ z. omega arith)) (and-false (eqb a b))
            differ (no u) = rw (ne_eqb a b (λ z. omega arith))
        apart (no h) = inr (inl (refl, rw (eq-eqb a b (omega arith), eq-eqb a 0 (omega arith)), le-ltb 0 (b + a) (omega arith)))
    go true false p q = apart (dec_lt 0 (a + b))
      where
        apart : Dec (0 < a + b) → OneOf (below true a false b) (level true a false b) (below false b true a)
        apart (yes h) = inl (lt-ltb 0 (a + b) h, differ (dec_lt 0 a), refl)
          where
            differ : Dec (0 < a) → level true a false b ≡ false
            differ (yes u) = rw (ne_eqb a 0 (λ z. omega arith)) (and-false (eqb a b))
            differ (no u) = rw (ne_eqb a b (λ z. omega arith))
        apart (no h) = inr (inl (le-ltb 0 (a + b) (omega arith), rw (eq-eqb a b (omega arith), eq-eqb a 0 (omega arith)), refl))

pub one_order : (x y : Float) → (is_nan x || is_nan y) ≡ false → OneOf (lt x y) (eq x y) (lt y x)
unfolding lt eq is_nan
one_order nan y h = absurd (true≢false h)
one_order (inf s) nan h = absurd (true≢false h)
one_order (inf true) (inf true) h = inr (inl (refl, refl, refl))
one_order (inf true) (inf false) h = inl (refl, refl, refl)
one_order (inf false) (inf true) h = inr (inr (refl, refl, refl))
one_order (inf false) (inf false) h = inr (inl (refl, refl, refl))
one_order (inf true) (fin t n d) h = inl (refl, refl, refl)
one_order (inf false) (fin t n d) h = inr (inr (refl, refl, refl))
one_order (fin s m e) nan h = absurd (true≢false h)
one_order (fin s m e) (inf true) h = inr (inr (refl, refl, refl))
one_order (fin s m e) (inf false) h = inl (refl, refl, refl)
one_order (fin s m e) (fin t n d) h = one_of_signed s t (m * up e * down d) (n * up d * down e)

pub compared_with_zero : (x : Float) → (infinite x || is_nan x) ≡ false → compared_floats x zero_float ≡ number_flags x
unfolding compared_floats number_flags is_nan infinite
compared_with_zero nan h = absurd (true≢false h)
compared_with_zero (inf s) h = absurd (true≢false h)
compared_with_zero (fin s m e) h = refl

-- ---- The values

-- X and A, Y and B are alike but for a factor
scaled_lt : (X Y A B P Q : ℕ) → 0 < P → 0 < Q → X * P ≡ A * Q → Y * P ≡ B * Q → ltb X Y ≡ ltb A B
scaled_lt X Y A B P Q p q u v = go (dec_lt X Y)
  where
    go : Dec (X < Y) → ltb X Y ≡ ltb A B
    go (yes h) =
        let k : X * P < Y * P = mul-lt-mul_of_pos_right h p in
        let l : A * Q < B * Q = rw (← u, ← v) k in
        lt-ltb X Y h ∙ sym (lt-ltb A B (lt_of_mul-lt-mul_right Q l))
    go (no h) =
        let k : Y * P ≤ X * P = mul-le-mul_right P (omega arith) in
        let l : B * Q ≤ A * Q = rw (← u, ← v) k in
        le-ltb X Y (omega arith) ∙ sym (le-ltb A B (le_of_mul-le-mul_right l q))

scaled_eq : (X Y A B P Q : ℕ) → 0 < P → 0 < Q → X * P ≡ A * Q → Y * P ≡ B * Q → eqb X Y ≡ eqb A B
scaled_eq X Y A B P Q p q u v = go (ℕ_discrete X Y)
  where
    go : Dec (X ≡ Y) → eqb X Y ≡ eqb A B
    go (yes h) = eq-eqb X Y h ∙ sym (eq-eqb A B (eq_of_mul-eq-mul_right Q q A B (sym u ∙ ap (λ (x : ℕ). x * P) h ∙ v)))
    go (no h) =
        ne_eqb X Y h
        ∙ sym (ne_eqb A B (λ z. h (eq_of_mul-eq-mul_right P p X Y (u ∙ ap (λ (x : ℕ). x * Q) z ∙ sym v))))

scaled : (s t : Bool) (X Y A B P Q : ℕ) → 0 < P → 0 < Q → X * P ≡ A * Q → Y * P ≡ B * Q
    → (below s X t Y ≡ below s A t B) × (level s X t Y ≡ level s A t B)
scaled s t X Y A B P Q p q u v = (order s t, rw (scaled_eq X Y A B P Q p q u v, scaled_eq X 0 A 0 P Q p q u none))
  where
    none : 0 * P ≡ 0 * Q
    none = zero-mul P ∙ sym (zero-mul Q)

    order : (s t : Bool) → below s X t Y ≡ below s A t B
    order false false = scaled_lt X Y A B P Q p q u v
    order false true = refl
    order true false = scaled_lt 0 (X + Y) 0 (A + B) P Q p q none (add-mul X Y P ∙ rw (u, v) (sym (add-mul A B Q)))
    order true true = scaled_lt Y X B A P Q p q v u

pub values_in_order : (x y : Float) (s t : Bool) (a b c d : ℕ) → 0 < c → 0 < d → HasValue x s a c → HasValue y t b d
    → (lt x y ≡ below s (a * d) t (b * c)) × (eq x y ≡ level s (a * d) t (b * c))
unfolding lt eq
values_in_order nan y s t a b c d i j p q = absurd p
values_in_order (inf o) y s t a b c d i j p q = absurd p
values_in_order (fin w g e) nan s t a b c d i j p q = absurd q
values_in_order (fin w g e) (inf o) s t a b c d i j p q = absurd q
values_in_order (fin w g e) (fin z h o) s t a b c d i j p q =
    let u : g * up e * down o * (c * d) ≡ a * d * (down e * down o) =
    simp (mul_assoc, mul_comm, mul_left_comm)
    (simp (mul_assoc, mul_comm, mul_left_comm) at (ap (λ (z : ℕ). z * (down o * d)) p.1)) in
    let v : h * up o * down e * (c * d) ≡ b * c * (down e * down o) =
    simp (mul_assoc, mul_comm, mul_left_comm)
    (simp (mul_assoc, mul_comm, mul_left_comm) at (ap (λ (z : ℕ). z * (down e * c)) q.1)) in
    rw (p.0, q.0)
    (scaled s t (g * up e * down o) (h * up o * down e) (a * d) (b * c) (c * d) (down e * down o) (mul-pos i j)
    (mul-pos (down_pos e) (down_pos o)) u v)

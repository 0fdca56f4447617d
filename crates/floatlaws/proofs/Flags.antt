-- The flags of a number and of the one with the other sign.
use Prim.Native.Nat.{ℕ, ◌+◌, ◌*◌, ◌<◌}
use mathlib.Core.Path.{◌≡◌, refl, sym, ap, ◌∙◌}
use mathlib.Core.Bool.{Bool, true, false, not, ◌&&◌, ◌||◌, and-false}
use native.Mathlib.Nat.{mul-pos, zero-mul}
use native.Mathlib.Omega.{arith}
use native.Mathlib.Decide.{dec_lt}
use borrow.Author.Tests.{lt-ltb, le-ltb, eq-eqb, ne_eqb}
use lib.Dec.{eqb}
use lib.IntN.{ℤ, pos}
use lib.Ieee.{Float, nan, inf, fin, neg, up, down, below, level, lt, eq, is_nan}
use lib.Ieee.Fits.{up_pos}
use Rattle.machine.specs.State.{bit, flag_n, flag_z, flag_v, flag_c}
use Rattle.machine.specs.Floats.{zero_float, infinite, number_flags}
use Rattle.machine.proofs.Results.{flags_tell}

pub n_flag : (x : Float) → flag_n (number_flags x) ≡ lt x zero_float
unfolding number_flags
n_flag x = (flags_tell (lt x zero_float) (eq x zero_float) (infinite x || is_nan x) false).0

pub z_flag : (x : Float) → flag_z (number_flags x) ≡ eq x zero_float
unfolding number_flags
z_flag x = (flags_tell (lt x zero_float) (eq x zero_float) (infinite x || is_nan x) false).1

pub v_flag : (x : Float) → flag_v (number_flags x) ≡ (infinite x || is_nan x)
unfolding number_flags
v_flag x = (flags_tell (lt x zero_float) (eq x zero_float) (infinite x || is_nan x) false).2

pub c_flag : (x : Float) → flag_c (number_flags x) ≡ false
unfolding number_flags
c_flag x = (flags_tell (lt x zero_float) (eq x zero_float) (infinite x || is_nan x) false).3

-- zero, as the library's comparisons write it
nought : (e : ℤ) → 0 * up (pos 0) * down e ≡ 0
nought e = zero-mul (down e)

-- ±a against 0
some_sign : (s : Bool) (a b : ℕ) → 0 < a → b ≡ 0 → (below s a false b ≡ s) × (level s a false b ≡ false)
some_sign true a b h q = (lt-ltb 0 (a + b) (omega arith), rw (ne_eqb a b (λ z. omega arith)))
some_sign false a b h q = (le-ltb a b (omega arith), rw (ne_eqb a b (λ z. omega arith)))

no_sign : (s : Bool) (a b : ℕ) → a ≡ 0 → b ≡ 0 → (below s a false b ≡ false) × (level s a false b ≡ true)
no_sign true a b h q = (le-ltb 0 (a + b) (omega arith), rw (eq-eqb a b (omega arith), eq-eqb a 0 h))
no_sign false a b h q = (le-ltb a b (omega arith), rw (eq-eqb a b (omega arith)))

pub finite_flags : (s : Bool) (m : ℕ) (e : ℤ) → 0 < m → number_flags (fin s m e) ≡ bit s 8
unfolding number_flags lt eq is_nan infinite
finite_flags s m e h =
    let a = m * up e * 1 in
    let some : 0 < a = mul-pos (mul-pos h (up_pos e)) (omega arith) in
    let q = some_sign s a (0 * up (pos 0) * down e) some (nought e) in
    rw (q.0, q.1) (omega arith)

pub zero_flags : (s : Bool) (e : ℤ) → number_flags (fin s 0 e) ≡ 4
unfolding number_flags lt eq is_nan infinite
zero_flags s e =
    let none : 0 * up e * 1 ≡ 0 = ap (λ (x : ℕ). x * 1) (zero-mul (up e)) in
    let q = no_sign s (0 * up e * 1) (0 * up (pos 0) * down e) none (nought e) in
    rw (q.0, q.1)

pub infinity_flags : (s : Bool) → number_flags (inf s) ≡ bit s 8 + 2
unfolding number_flags lt eq is_nan infinite
infinity_flags true = refl
infinity_flags false = refl

-- N and Z exclude each other
not_both : (s : Bool) (a b : ℕ) → b ≡ 0 → (below s a false b && level s a false b) ≡ false
not_both s a b q = go (dec_lt 0 a)
  where
    go : Dec (0 < a) → (below s a false b && level s a false b) ≡ false
    go (yes p) = let z = some_sign s a b p q in rw (z.0, z.1) (and-false s)
    go (no p) = let z = no_sign s a b (omega arith) q in rw z.0

pub n_or_z : (x : Float) → (flag_n (number_flags x) && flag_z (number_flags x)) ≡ false
unfolding lt eq
n_or_z x = rw (n_flag x, z_flag x) (go x)
  where
    go : (x : Float) → (lt x zero_float && eq x zero_float) ≡ false
    go nan = refl
    go (inf true) = refl
    go (inf false) = refl
    go (fin s m e) = not_both s (m * up e * 1) (0 * up (pos 0) * down e) (nought e)

-- ---- The other sign

turned : (s : Bool) (a b : ℕ) → b ≡ 0
    → (below (not s) a false b ≡ below false b s a) × (level (not s) a false b ≡ level s a false b)
turned true a b q = (le-ltb a b (omega arith), both (eqb a b) (eqb a 0) (cc))
  where
    both : (x y : Bool) → x ≡ y → (x && true) ≡ (x && y)
    both true y h = h
    both false y h = refl
turned false a b q = (
  let e : a + b ≡ a = omega arith in rw (e, q),
  let e : eqb a b ≡ eqb a 0 = rw q in rw e (both (eqb a 0)),
)
  where
    both : (x : Bool) → (x && x) ≡ (x && true)
    both true = refl
    both false = refl

pub n_of_opposite : (x : Float) → flag_n (number_flags (neg x)) ≡ lt zero_float x
unfolding lt neg
n_of_opposite x = n_flag (neg x) ∙ go x
  where
    go : (x : Float) → lt (neg x) zero_float ≡ lt zero_float x
    go nan = refl
    go (inf true) = refl
    go (inf false) = refl
    go (fin s m e) = (turned s (m * up e * 1) (0 * up (pos 0) * down e) (nought e)).0

pub z_of_opposite : (x : Float) → flag_z (number_flags (neg x)) ≡ flag_z (number_flags x)
unfolding eq neg
z_of_opposite x = z_flag (neg x) ∙ go x ∙ sym (z_flag x)
  where
    go : (x : Float) → eq (neg x) zero_float ≡ eq x zero_float
    go nan = refl
    go (inf true) = refl
    go (inf false) = refl
    go (fin s m e) = (turned s (m * up e * 1) (0 * up (pos 0) * down e) (nought e)).1

pub v_of_opposite : (x : Float) → flag_v (number_flags (neg x)) ≡ flag_v (number_flags x)
unfolding neg infinite is_nan
v_of_opposite x = v_flag (neg x) ∙ go x ∙ sym (v_flag x)
  where
    go : (x : Float) → (infinite (neg x) || is_nan (neg x)) ≡ (infinite x || is_nan x)
    go nan = refl
    go (inf s) = refl
    go (fin s m e) = refl

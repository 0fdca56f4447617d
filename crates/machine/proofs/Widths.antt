-- Numbers of L bytes as signed numbers, for any L: sign, range, round trip, overflow and extension
-- (document 000, 1.1.2; document 01, "One step").
use Prim.Native.Nat.{ℕ, zero, suc, ◌+◌, ◌-◌, ◌*◌, ◌%◌, ◌≤◌, ◌<◌}
use mathlib.Core.Path.{◌≡◌, refl, sym, ◌∙◌}
use mathlib.Core.Bool.{Bool, true, false, ◌&&◌}
use native.Mathlib.Nat.{mod-eq_of_lt, one-le-pow, pow-suc, pow-le-pow_right}
use native.Mathlib.Omega.{arith}
use borrow.Author.Tests.{le-leb, lt-ltb, le-ltb, leb-true, leb-false, ltb-true}
use lib.Dec.{ltb, leb}
use lib.IntN.{ℤ, pos, negsuc, neg_ℤ, sub_ℕ, ◌-ℤ◌}
use lib.Signed.{le_z, lt_z}
use Rattle.machine.specs.Words.{pick, span}
use Rattle.machine.specs.State.{bit}
use Rattle.machine.specs.Integers.{half, negative, signed, fits, modulo, kept}
use Rattle.machine.proofs.Differences.{leb_same, Gap, gap_sub, gap_pos, gap_shift, gap_same, gap_neg, gap_diff}
use Rattle.machine.proofs.Differences.{gap_le_z, gap_lt_z, modulo_lt, gap_modulo}

-- ---- Spans and halves

pub span_positive : (L : ℕ) → 0 < span L
span_positive L = one-le-pow L 256 (omega arith)

pub half_twice : (L : ℕ) → 1 ≤ L → half L + half L ≡ span L
half_twice zero h = absurd (omega arith)
half_twice (suc L) h = omega (arith, pow-suc 256 L)

pub span_wider : (L M : ℕ) → L ≤ M → span L ≤ span M
span_wider L M h = let p : 0 < 256 = omega arith in pow-le-pow_right p h

pub half_wider : (L M : ℕ) → L ≤ M → half L ≤ half M
half_wider L M h = omega (arith, span_wider L M h)

-- ---- Sign

-- the highest bit as a number
unfoldable pub b0 : ℕ → ℕ → ℕ
b0 L x = bit (negative L x) 1

pub by_sign : (L x : ℕ) (P : Bool → Type 0) → (half L ≤ x → P true) → (x < half L → P false) → P (negative L x)
unfolding negative
by_sign L x P f g = go (leb (half L) x) refl
  where
    go : (t : Bool) → leb (half L) x ≡ t → P t
    go true e = f (leb-true (half L) x e)
    go false e = g (leb-false (half L) x e)

pub signed_gap : (L x : ℕ) → Gap (signed L x) x (b0 L x * span L)
unfolding signed b0
signed_gap L x =
    by_sign L x (λ t. Gap (pick t (sub_ℕ x (span L)) (pos x)) x (bit t 1 * span L))
    (λ h. gap_shift x (1 * span L) (gap_sub x (span L)) (omega arith))
    (λ h. gap_shift x (0 * span L) (gap_pos x) (omega arith))

-- document 000, 1.1.2: the natural number less b0 * 2 ^ n
pub signed_is : (L x : ℕ) → signed L x ≡ pos x -ℤ pos (b0 L x * span L)
signed_is L x = gap_same (signed_gap L x) (gap_diff (gap_pos x) (gap_pos (b0 L x * span L))) (omega arith)

pub signed_low : (L x : ℕ) → x < half L → Gap (signed L x) x 0
unfolding b0
signed_low L x h =
    let e : b0 L x * span L ≡ 0 = by_sign L x (λ t. bit t 1 * span L ≡ 0) (λ q. absurd (omega arith))
    (λ q. omega arith) in
    gap_shift x 0 (signed_gap L x) (omega arith)

pub signed_high : (L x : ℕ) → half L ≤ x → Gap (signed L x) x (span L)
unfolding b0
signed_high L x h =
    let e : b0 L x * span L ≡ span L = by_sign L x (λ t. bit t 1 * span L ≡ span L) (λ q. omega arith)
    (λ q. absurd (omega arith)) in
    gap_shift x (span L) (signed_gap L x) (omega arith)

pub signed_low_is : (L x : ℕ) → x < half L → signed L x ≡ pos x
signed_low_is L x h = gap_same (signed_low L x h) (gap_pos x) refl

pub signed_high_is : (L x : ℕ) → half L ≤ x → x < span L → signed L x ≡ negsuc (span L - 1 - x)
signed_high_is L x h l = gap_same (signed_high L x h) (gap_neg (gap_pos (suc (span L - 1 - x)))) (omega arith)

pub signed-negative : (L x : ℕ) → x < span L → lt_z (signed L x) (pos 0) ≡ negative L x
unfolding b0
signed-negative L x h =
    gap_lt_z (signed_gap L x) (gap_pos 0)
    ∙ by_sign L x (λ t. ltb (x + 0) (0 + bit t 1 * span L) ≡ t)
    (λ q. lt-ltb (x + 0) (0 + 1 * span L) (omega arith))
    (λ q. le-ltb (x + 0) (0 + 0 * span L) (omega arith))

-- ---- Range

pub fits_gap : (L : ℕ) {z : ℤ} {a b : ℕ} → Gap z a b → fits L z ≡ (leb b (a + half L) && ltb a (half L + b))
unfolding fits
fits_gap L {z} {a} {b} h =
    let low : le_z (neg_ℤ (pos (half L))) z ≡ leb b (a + half L) =
    gap_le_z (gap_neg (gap_pos (half L))) h ∙ leb_same (0 + b) (a + half L) b (a + half L) (omega arith) (omega arith) in
    let high : lt_z z (pos (half L)) ≡ ltb a (half L + b) =
    gap_lt_z h (gap_pos (half L)) ∙ leb_same (suc (a + 0)) (half L + b) (suc a) (half L + b) (omega arith)
    (omega arith) in
    rw (low, high)

pub gap_fits : (L : ℕ) {z : ℤ} {a b : ℕ} → Gap z a b → b ≤ a + half L → a < half L + b → fits L z ≡ true
gap_fits L {z} {a} {b} h low high = fits_gap L h ∙ rw (le-leb b (a + half L) low, lt-ltb a (half L + b) high)

pub and_true : (s t : Bool) → (s && t) ≡ true → (s ≡ true) × (t ≡ true)
and_true true true e = (refl, refl)
and_true true false e = (refl, e)
and_true false t e = absurd (let z : ◌≡◌ {A = ℕ} 0 1 = cc in omega arith)

pub fits_bounds : (L : ℕ) {z : ℤ} {a b : ℕ} → Gap z a b → fits L z ≡ true → (b ≤ a + half L) × (a < half L + b)
fits_bounds L {z} {a} {b} h e =
    let both = and_true (leb b (a + half L)) (ltb a (half L + b)) (sym (fits_gap L h) ∙ e) in
    (leb-true b (a + half L) both.0, ltb-true a (half L + b) both.1)

pub pos_fits : (L n : ℕ) → n < half L → fits L (pos n) ≡ true
pos_fits L n h = gap_fits L (gap_pos n) (omega arith) (omega arith)

pub pos_over : (L n : ℕ) → half L ≤ n → fits L (pos n) ≡ false
pos_over L n h = fits_gap L (gap_pos n) ∙ rw (le-leb 0 (n + half L) (omega arith), le-ltb n (half L + 0) (omega arith))

pub neg_fits : (L n : ℕ) → 1 ≤ L → n ≤ half L → fits L (neg_ℤ (pos n)) ≡ true
neg_fits L n l h = gap_fits L (gap_neg (gap_pos n)) (omega arith) (omega (arith, half_twice L l, span_positive L))

pub signed-fits : (L x : ℕ) → 1 ≤ L → x < span L → fits L (signed L x) ≡ true
unfolding b0
signed-fits L x l h =
    let e = half_twice L l in
    let bounds = by_sign L x (λ t. (bit t 1 * span L ≤ x + half L) × (x < half L + bit t 1 * span L))
    (λ q. omega arith) (λ q. omega arith) in
    gap_fits L (signed_gap L x) bounds.0 bounds.1

pub fits_wider : (L M : ℕ) (z : ℤ) → L ≤ M → fits L z ≡ true → fits M z ≡ true
fits_wider L M (pos n) h e =
    let k = fits_bounds L (gap_pos n) e in
    let w = half_wider L M h in
    gap_fits M (gap_pos n) (omega arith) (omega arith)
fits_wider L M (negsuc n) h e =
    let g : Gap (negsuc n) 0 (suc n) = gap_neg (gap_pos (suc n)) in
    let k = fits_bounds L g e in
    let w = half_wider L M h in
    gap_fits M g (omega arith) (omega arith)

-- ---- Round trip

pub kept_lt : (L : ℕ) (z : ℤ) → kept L z < span L
kept_lt L z = modulo_lt (span L) (span_positive L) z

pub kept_gap : (L : ℕ) {z : ℤ} (a j k : ℕ) → Gap z (a + j * span L) (k * span L) → kept L z ≡ a % span L
kept_gap L a j k h = gap_modulo (span L) (span_positive L) a j k h

pub kept-signed : (L x : ℕ) → x < span L → kept L (signed L x) ≡ x
kept-signed L x h =
    kept_gap L x 0 (b0 L x) (gap_shift (x + 0 * span L) (b0 L x * span L) (signed_gap L x) (omega arith))
    ∙ mod-eq_of_lt h

pub signed-kept : (L : ℕ) (z : ℤ) → 1 ≤ L → fits L z ≡ true → signed L (kept L z) ≡ z
unfolding modulo
signed-kept L (pos n) l e =
    let k = fits_bounds L (gap_pos n) e in
    let d = half_twice L l in
    let small : n < span L = omega arith in
    let q : n % span L ≡ n = mod-eq_of_lt small in
    rw q (gap_same (signed_low L n (omega arith)) (gap_pos n) refl)
signed-kept L (negsuc n) l e =
    let g : Gap (negsuc n) 0 (suc n) = gap_neg (gap_pos (suc n)) in
    let k = fits_bounds L g e in
    let d = half_twice L l in
    let small : n < span L = omega arith in
    let q : n % span L ≡ n = mod-eq_of_lt small in
    rw q (gap_same (signed_high L (span L - 1 - n) (omega arith)) g (omega arith))

pub exact-fits : (L : ℕ) (z : ℤ) → 1 ≤ L → signed L (kept L z) ≡ z → fits L z ≡ true
exact-fits L z l q = rw q at (signed-fits L (kept L z) l (kept_lt L z))

-- V says that the kept result is not the exact one
pub overflow_not_exact : (L : ℕ) (z : ℤ) → 1 ≤ L → fits L z ≡ false → signed L (kept L z) ≡ z → ⊥
overflow_not_exact L z l e q =
    let t = exact-fits L z l q in
    let c : ◌≡◌ {A = ℕ} 0 1 = cc in
    omega arith

-- ---- Extension: CONV is L = 1, M = 4

pub extension_exact : (L M x : ℕ) → 1 ≤ L → L ≤ M → x < span L → signed M (kept M (signed L x)) ≡ signed L x
extension_exact L M x l m h =
    signed-kept M (signed L x) (omega arith) (fits_wider L M (signed L x) m (signed-fits L x l h))

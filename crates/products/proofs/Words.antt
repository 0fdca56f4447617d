-- What the code asks of its words: a product that fits 64 bits, and a divisor that is not 0.
use Rattle.std.proofs.Common.{ℕ, ◌-◌, ◌*◌, ◌^◌, ◌<◌, ◌≤◌, mul-le-mul, arith}
use Rattle.machine.specs.Words.{pick, span}
use Rattle.machine.proofs.Widths.{by_sign}
use Rattle.machine.proofs.Magnitudes.{magnitude}

pub product_of_words : (a b : ℕ) → a < 4294967296 → b < 4294967296 → a * b < 2 ^ 64
product_of_words a b ha hb =
    let p : a ≤ 4294967295 = omega arith in
    let q : b ≤ 4294967295 = omega arith in
    omega (arith, mul-le-mul p q)

pub magnitude_positive : (L x : ℕ) → x < span L → 0 < x → 0 < magnitude L x
unfolding magnitude
magnitude_positive L x f h = by_sign L x (λ t. 0 < pick t (span L - x) x) (λ q. omega arith) (λ q. h)

-- The bytes of each size.
use Rattle.std.proofs.Common.{◌≡◌, ℕ, suc, ◌+◌, ◌*◌, ◌/◌, ◌%◌, ◌^◌, ◌<◌, [], ◌∷◌, set, add-one, arith}
use lib.Seq.{sets}
use Rattle.machine.specs.Words.{Memory, bytes_of}

lowest_byte : (v : ℕ) → v / 256 ^ 0 % 256 ≡ v % 256
lowest_byte v = omega arith

pub one_byte : (v : ℕ) → bytes_of 1 v ≡ v % 256 ∷ []
unfolding bytes_of
one_byte v = rw lowest_byte

pub two_bytes : (v : ℕ) → bytes_of 2 v ≡ v / 256 % 256 ∷ v % 256 ∷ []
unfolding bytes_of
two_bytes v = rw lowest_byte

pub four_bytes : (v : ℕ) → bytes_of 4 v ≡ v / 16777216 % 256 ∷ v / 65536 % 256 ∷ v / 256 % 256 ∷ v % 256 ∷ []
unfolding bytes_of
four_bytes v = rw lowest_byte

module _ (m : Memory) (a v : ℕ) where
  pub one_byte_laid : set m a (v % 256) ≡ sets m a (bytes_of 1 v)
  one_byte_laid = rw one_byte

  pub two_bytes_laid : set (set m a (v / 256 % 256)) (a + 1) (v % 256) ≡ sets m a (bytes_of 2 v)
  two_bytes_laid = rw (two_bytes, add-one)

  pub four_bytes_laid : set
      (set (set (set m a (v / 0x100_0000 % 256)) (a + 1) (v / 0x1_0000 % 256)) (a + 2) (v / 0x100 % 256)) (a + 3)
      (v % 256) ≡ sets m a (bytes_of 4 v)
  four_bytes_laid =
      let second : a + 1 ≡ suc a = omega arith in
      let third : a + 2 ≡ suc (suc a) = omega arith in
      let fourth : a + 3 ≡ suc (suc (suc a)) = omega arith in
      rw (four_bytes, second, third, fourth)

-- ---- Bytes that make up a number are its bytes

pub two_bytes_back : (x y : ℕ) → x < 256 → y < 256 → bytes_of 2 (x * 0x100 + y) ≡ x ∷ y ∷ []
unfolding bytes_of
two_bytes_back x y hx hy =
    let v : ℕ = x * 0x100 + y in
    let e : v / 0x100 % 256 ≡ x = omega arith in
    let f : v / 1 % 256 ≡ y = omega arith in
    cc

pub four_bytes_back : (x y z w : ℕ) → x < 256 → y < 256 → z < 256 → w < 256
    → bytes_of 4 (x * 0x100_0000 + y * 0x1_0000 + z * 0x100 + w) ≡ x ∷ y ∷ z ∷ w ∷ []
unfolding bytes_of
four_bytes_back x y z w hx hy hz hw =
    let v : ℕ = x * 0x100_0000 + y * 0x1_0000 + z * 0x100 + w in
    let e : v / 0x100_0000 % 256 ≡ x = omega arith in
    let f : v / 0x1_0000 % 256 ≡ y = omega arith in
    let g : v / 0x100 % 256 ≡ z = omega arith in
    let k : v / 1 % 256 ≡ w = omega arith in
    cc

-- Numbers of one size, kept in words of 32 bits.
use Prim.Native.Nat.{ℕ, ◌+◌, ◌-◌, ◌%◌, ◌≤◌}
use mathlib.Core.Path.{◌≡◌}
use native.Mathlib.Omega.{arith}
use Rattle.machine.specs.declared.Size.{Size}
use Rattle.machine.specs.declared.Size.TheVariants.{B, H, W}
use Rattle.machine.specs.Words.{length_of, span}

pub some_bytes : (s : Size) → 1 ≤ length_of s
some_bytes B = omega arith
some_bytes H = omega arith
some_bytes W = omega arith

pub span-word : (s : Size) → span (length_of s) ≤ 4294967296
span-word B = omega arith
span-word H = omega arith
span-word W = omega arith

-- the last L bytes of a number are those of its last four
pub low_word : (s : Size) (n : ℕ) → n % 4294967296 % span (length_of s) ≡ n % span (length_of s)
low_word B n = omega arith
low_word H n = omega arith
low_word W n = omega arith

-- a word that p completes to q is the difference of q and p
pub low_difference : (s : Size) (p q r : ℕ) → p ≤ span (length_of s) → (r + p) % 4294967296 ≡ q
    → r % span (length_of s) ≡ (q + (span (length_of s) - p)) % span (length_of s)
low_difference B p q r h e = omega arith
low_difference H p q r h e = omega arith
low_difference W p q r h e = omega arith

-- Document 02, F-6: floating numbers and their flags, with document 000, 1.1.3. The numbers and
-- their arithmetic are those of the logic's library, `lib.Ieee`; no processor's floats are meant. a is
-- the first operand's bits, b the second's.
use Rattle.std.specs.Prelude.{ℕ, Bool, true, false, ◌||◌, pos, Float}
use Rattle.std.specs.Float.{nan, inf, fin, Format, binary32, binary64}
use Rattle.std.specs.Float.Ieee.{of_bits, to_bits, add, sub, mul, div, lt, eq, is_nan}
use Rattle.machine.specs.declared.Kind.{Kind}
use Rattle.machine.specs.declared.Kind.TheVariants.{F, D}
use Rattle.machine.specs.declared.Arithmetic.{Arithmetic}
use Rattle.machine.specs.declared.Arithmetic.TheVariants.{Add, Sub, Mult, Div}
use Rattle.machine.specs.declared.FloatResult.{FloatResult}
use Rattle.machine.specs.Words.{kind_length}
use Rattle.machine.specs.State.{flags}
use Rattle.machine.specs.Integers.{natural}

-- ---- Numbers and bits

-- "An operand's value is a short or a long floating number"; "Bytes and operations are the IEEE ones":
-- F, a sign, m = 8 bits of exponent and n = 23 of mantissa (1.1.3), is IEEE's binary32; D, with 11
-- and 52, its binary64
abbrev pub format_of : Kind → Format
format_of F = binary32
format_of D = binary64

-- what the bits of L bytes stand for: 1.1.3's cases, a) NaN, b) infinite, c) and e) finite, d) either
-- zero (stated in `floatlaws`)
abbrev pub number_of : Kind → ℕ → Float
number_of k x = of_bits (format_of k) (natural (kind_length k) x)

-- the bits of a number; "a NaN result is 7FC00000h or 7FF8000000000000h" (stated in `floatlaws`)
abbrev pub bits_of : Kind → Float → ℕ
bits_of k x = to_bits (format_of k) x

-- ---- Flags: "Both kinds share one account of their flags."

-- +0
abbrev pub zero_float : Float
zero_float = fin false 0 (pos 0)

unfoldable pub infinite : Float → Bool
infinite nan = false
infinite (inf s) = true
infinite (fin s m e) = false

-- "N: below zero, Z: either zero, V: infinite or NaN, C clear." Both zeros are equal and neither
-- is below the other; a NaN is neither below nor equal
unfoldable pub number_flags : Float → ℕ
number_flags x = flags (lt x zero_float) (eq x zero_float) (infinite x || is_nan x) false

-- ---- Operations

-- ADD, SUB, MULT and DIV of the first operand's number x and the second's, y: y op x, as for
-- integers. "Bytes and operations are the IEEE ones, to nearest, ties to even". "Division by zero
-- raises no alarm."
unfoldable pub computed : Arithmetic → Format → Float → Float → Float
computed Add f x y = add f y x
computed Sub f x y = sub f y x
computed Mult f x y = mul f y x
computed Div f x y = div f y x

-- the result's bits, and the flags of the result as rounded
unfoldable pub arithmetic : Arithmetic → Kind → ℕ → ℕ → FloatResult
arithmetic op k a b =
    let r = computed op (format_of k) (number_of k a) (number_of k b) in
    record { bits = bits_of k r; flags = number_flags r }

-- "MOVE keeps its bits", those of signalling NaNs too; its flags are those of the number
unfoldable pub moved_float : Kind → ℕ → FloatResult
moved_float k a = record { bits = a; flags = number_flags (number_of k a) }

-- "CMP with a NaN sets V alone; otherwise it sets Z or N as for integers and clears V": Z if equal,
-- N if first < second. A NaN is neither equal to nor below any number. Infinite operands leave V
-- clear
unfoldable pub compared_floats : Float → Float → ℕ
compared_floats x y = flags (lt x y) (eq x y) (is_nan x || is_nan y) false

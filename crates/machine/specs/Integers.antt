-- Integer results and flags: document 000, 1.1.1 and 1.1.2, 2.5.1 to 2.5.5, and document 01, "One
-- step", for any width of L bytes. a is the first operand's value S[a1], b the second's, S[a2].
use Rattle.std.specs.Prelude.{ℕ, ◌+◌, ◌-◌, ◌*◌, ◌/◌, ◌%◌, ◌^◌, Bool, false, not, ◌&&◌, ltb, leb, eqb, ℤ, pos, negsuc, neg_ℤ, nat_abs, ◌+ℤ◌, ◌-ℤ◌, ◌*ℤ◌}
use Rattle.std.proofs.Math.IntN.{sub_ℕ}
use Rattle.std.specs.Int.Signed.{le_z, lt_z, non_neg, quot_z, shr_z}
use Rattle.std.specs.Int.Bits.{bit_and, bit_or, bit_xor}
use Rattle.machine.specs.declared.Alarm.TheVariants as alarms
use Rattle.machine.specs.declared.IntegerResult.{IntegerResult}
use Rattle.machine.specs.Words.{pick, span}
use Rattle.machine.specs.State.{flags}
use Rattle.machine.specs.Alarms.{OrAlarm, got, alarm}
use Rattle.machine.specs.Code.{Operation, MOVE, CLEAR, MOVEN, MOVEC, MOVEA, CONV, OR, ANDNOT, XOR, ADD, SUB}
use Rattle.machine.specs.Code.{MULT, DIV, SH, ROT}

-- ---- Numbers

abbrev pub half : ℕ → ℕ
half L = span L / 2

-- 1.1.1: the natural number of the last L bytes
abbrev pub natural : ℕ → ℕ → ℕ
natural L x = x % span L

-- the highest bit, b0, of such a number
unfoldable pub negative : ℕ → ℕ → Bool
negative L x = leb (half L) x

-- 1.1.2: the natural number, less 256 ^ L where b0 is set
unfoldable pub signed : ℕ → ℕ → ℤ
signed L x = pick (negative L x) (sub_ℕ x (span L)) (pos x)

-- 1.1.2, the range: at least -256 ^ L / 2, at most 256 ^ L / 2 - 1
unfoldable pub fits : ℕ → ℤ → Bool
fits L z = le_z (neg_ℤ (pos (half L))) z && lt_z z (pos (half L))

-- the number from 0 to m - 1 that differs from z by a multiple of m
unfoldable pub modulo : ℕ → ℤ → ℕ
modulo m (pos n) = n % m
modulo m (negsuc n) = m - 1 - n % m

-- "Integer results are kept modulo 256^L"
abbrev pub kept : ℕ → ℤ → ℕ
kept L z = modulo (span L) z

-- ---- Results with flags

-- "N and Z from the result"
unfoldable pub result_of : ℕ → ℕ → Bool → Bool → IntegerResult
result_of L x v c = record { value = x; flags = flags (negative L x) (eqb x 0) v c }

-- "V = C = 0"
abbrev pub plain : ℕ → ℕ → IntegerResult
plain L x = result_of L x false false

-- "V when the exact signed result doesn't fit"
abbrev pub exact : ℕ → ℤ → Bool → IntegerResult
exact L z c = result_of L (kept L z) (not (fits L z)) c

-- ---- Operations

unfoldable pub complement : ℕ → ℕ → ℕ
complement L a = span L - 1 - a

-- "ADD, SUB, MOVEN (0 minus its operand) set V when the exact signed result doesn't fit, C on
-- unsigned carry or borrow"
unfoldable pub added : ℕ → ℕ → ℕ → IntegerResult
added L a b = exact L (signed L b +ℤ signed L a) (leb (span L) (b + a))

unfoldable pub subtracted : ℕ → ℕ → ℕ → IntegerResult
subtracted L a b = exact L (signed L b -ℤ signed L a) (ltb b a)

-- "MULT and DIV set V likewise"
unfoldable pub multiplied : ℕ → ℕ → ℕ → IntegerResult
multiplied L a b = exact L (signed L b *ℤ signed L a) false

-- "DIV drops the fraction, and lowest ÷ −1 gives lowest"
unfoldable pub divided : ℕ → ℕ → ℕ → IntegerResult
divided L a b = exact L (quot_z (signed L b) (signed L a)) false

-- a zero bit from the right each time; document 02, F-2, in place of a rule on signs: "V is set
-- exactly when the signed operand times 2 to the power of the count, as a whole number, doesn't fit
-- a signed word"
unfoldable pub shifted_left : ℕ → ℕ → IntegerResult
shifted_left n b = result_of 4 (b * 2 ^ n % span 4) (not (fits 4 (signed 4 b *ℤ pos (2 ^ n)))) false

-- b0 from the left each time
unfoldable pub shifted_right : ℕ → ℕ → IntegerResult
shifted_right n b = plain 4 (kept 4 (shr_z (signed 4 b) (2 ^ n)))

-- to the left where the count S[a1] is not negative, else to the right by its size
unfoldable pub shifted : ℕ → ℕ → IntegerResult
shifted a b = let n = signed 4 a in pick (non_neg n) (shifted_left (nat_abs n) b) (shifted_right (nat_abs n) b)

-- S[a1] times to the left, the bit that goes out coming in on the right; 32 times is none, and once
-- to the right is 31 times to the left
unfoldable pub rotated : ℕ → ℕ → IntegerResult
rotated a b = let n = modulo 32 (signed 4 a) in plain 4 ((b * 2 ^ n + b / 2 ^ (32 - n)) % span 4)

-- 15: "DIV by zero", its argument zero
unfoldable pub operate : Operation → ℕ → ℕ → ℕ → OrAlarm IntegerResult
operate MOVE L a b = got (plain L a)
operate CLEAR L a b = got (plain L 0)
operate MOVEN L a b = got (subtracted L a 0)
operate MOVEC L a b = got (plain L (complement L a))
operate MOVEA L a b = got (plain L a)
operate CONV L a b = got (plain L (kept L (signed 1 (natural 1 a))))
operate OR L a b = got (plain L (bit_or b a))
operate ANDNOT L a b = got (plain L (bit_and b (complement L a)))
operate XOR L a b = got (plain L (bit_xor b a))
operate ADD L a b = got (added L a b)
operate SUB L a b = got (subtracted L a b)
operate MULT L a b = got (multiplied L a b)
operate DIV L a b = pick (eqb a 0) (alarm alarms.Divide 0) (got (divided L a b))
operate SH L a b = got (shifted a b)
operate ROT L a b = got (rotated a b)

-- "CMP: Z if equal, N if first < second, signed"
unfoldable pub compared : ℕ → ℕ → ℕ → ℕ
compared L a b = flags (lt_z (signed L a) (signed L b)) (eqb a b) false false

-- An operand's value, "a short or a long floating number" (document 02, F-6), as the code has it: which
-- kind and number each case is, its bits, and an operation on two of one kind.
use Rattle.std.specs.Prelude.{ℕ}
use Rattle.std.specs.Float.Ieee as Ieee
use Rattle.std.specs.Float.{binary32, binary64}
use Rattle.machine.specs.declared.Arithmetic.{Arithmetic}
use Rattle.machine.specs.declared.Kind.{Kind}
use Rattle.machine.specs.declared.Kind.TheVariants.{F, D}
use Rattle.machine.specs.declared.FloatResult.{FloatResult}
use Rattle.machine.specs.Floats.{number_of, bits_of, number_flags, computed}
use Rattle.floats.specs.declared.Float.{Float}
use Rattle.floats.specs.declared.Float.TheVariants.{Short, Long}

-- a number as a value of a kind
abbrev pub valued : Kind → Ieee.Float → Float
valued F x = Short x
valued D x = Long x

-- the value that some bits stand for
abbrev pub float_of : Kind → ℕ → Float
float_of k x = valued k (number_of k x)

abbrev pub number_in : Float → Ieee.Float
number_in (Short x) = x
number_in (Long x) = x

abbrev pub bits_in : Float → ℕ
bits_in (Short x) = bits_of F x
bits_in (Long x) = bits_of D x

-- on two of one kind; of two kinds, which no command has, the first
abbrev pub combined : Arithmetic → Float → Float → Float
combined op (Short x) (Short y) = Short (computed op binary32 x y)
combined op (Short x) (Long y) = Short x
combined op (Long x) (Short y) = Long x
combined op (Long x) (Long y) = Long (computed op binary64 x y)

-- a value as a result: its bits, and the flags of its number
abbrev pub result_in : Float → FloatResult
result_in x = record { bits = bits_in x; flags = number_flags (number_in x) }

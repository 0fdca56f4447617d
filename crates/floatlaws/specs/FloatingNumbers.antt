-- Document 02, F-6: "Bring F and D from document 000, 1.1.3". The rules are Floats, FloatCode and
-- `float_command` of Commands. Here is what they say of every number, for both kinds at once, and
-- worked results and steps. The proof is `floating_numbers` of proofs/FloatingNumbers.antt.
use Rattle.std.specs.Prelude.{ℕ, ◌+◌, ◌-◌, ◌*◌, ◌/◌, ◌^◌, ◌≤◌, ◌<◌, ◌≡◌, ◌⊎◌, Bool, true, false, ◌&&◌, ◌||◌, List, [], ◌∷◌, ◌++◌, ℤ, Float, length, take, drop, Ok}
use Rattle.std.specs.Float.{nan, inf, fin}
use Rattle.std.specs.Float.Ieee.{neg, below, level, lt, eq, is_nan}
use Rattle.std.specs.Float.Ieee.Exact.{HasValue}
use Rattle.machine.specs.declared.Arithmetic.{Arithmetic}
use Rattle.machine.specs.declared.FloatResult.{FloatResult}
use Rattle.machine.specs.declared.Kind.{Kind}
use Rattle.machine.specs.declared.Kind.TheVariants.{F, D}
use Rattle.machine.specs.declared.StepEvent.TheVariants as step_event
use Rattle.machine.specs.declared.Target.TheVariants.{Register}
use Rattle.machine.specs.Words.{kind_length, span, bytes_of}
use Rattle.machine.specs.State.{Registers, bit, flag_n, flag_z, flag_v, flag_c}
use Rattle.machine.specs.Floats.{format_of, number_of, bits_of, zero_float, infinite, number_flags, computed}
use Rattle.machine.specs.Floats.{arithmetic, moved_float, compared_floats}
use Rattle.machine.specs.FloatCode.{bits_in_register}
use Rattle.machine.specs.Commands.{float_stored}
use Rattle.machine.specs.Calls.{Stepped, step_of}
use Rattle.machine.specs.TriedValues.{I, A, R, memory_with, kernel_desk, ran_on, register_after, flags_after}
use Rattle.machine.specs.PagesWithoutCommands.{pages_ran, told}

-- ---- Document 000, 1.1.3: s, e and f; f is t / 2 ^ n, where the n bits of the mantissa make up t

-- table 1.1
abbrev pub m : Kind → ℕ
m F = 8
m D = 11

abbrev pub n : Kind → ℕ
n F = 23
n D = 52

-- "e_max := 2^m - 1", "e* := 2^(m-1) - 1"
abbrev pub e_max : Kind → ℕ
e_max k = 2 ^ m k - 1

abbrev pub e_star : Kind → ℕ
e_star k = 2 ^ (m k - 1) - 1

-- b0, the m bits of e, the n bits of t
abbrev pub bits_from : Kind → Bool → ℕ → ℕ → ℕ
bits_from k s e t = bit s (2 ^ (m k + n k)) + e * 2 ^ n k + t

-- a pattern has an s, an e and a t
pub record FromFields (k : Kind) (x : ℕ) : Type 0 where
  pub s : Bool
  pub e : ℕ
  pub t : ℕ
  pub e_range : e ≤ e_max k
  pub t_range : t < 2 ^ n k
  pub pattern : x ≡ bits_from k s e t

-- ---- Of two numbers

-- exactly one of three tests passes
abbrev pub OneOf : Bool → Bool → Bool → Type 0
OneOf a b c =
    ((a ≡ true) × (b ≡ false) × (c ≡ false))
    ⊎ ((a ≡ false) × (b ≡ true) × (c ≡ false))
    ⊎ ((a ≡ false) × (b ≡ false) × (c ≡ true))

-- ---- Worked steps

-- a command of F's: a is its direct first operand, b in R0 its second
unfoldable pub short_ran : ℕ → ℕ → ℕ → Stepped
short_ran c a b = ran_on b (c ∷ I a ++ R 0)

-- R0 and the flags after it
abbrev pub ShortGives : ℕ → ℕ → ℕ → ℕ → ℕ → Type 0
ShortGives c a b x f = (register_after 0 (short_ran c a b) ≡ x) × (flags_after (short_ran c a b) ≡ f)

-- a command of D's: a, in the 8 bytes behind the command, is its first operand; b, in R0 and R1, its
-- second. R1 is 0
unfoldable pub long_ran : ℕ → ℕ → ℕ → Stepped
long_ran c a b = ran_on (b / span 4) (c ∷ A 413 ++ R 0 ++ bytes_of 8 a)

-- R0 with R1 and the flags after it
abbrev pub LongGives : ℕ → ℕ → ℕ → ℕ → ℕ → Type 0
LongGives c a b x f =
    (register_after 0 (long_ran c a b) * span 4 + register_after 1 (long_ran c a b) ≡ x)
    × (flags_after (long_ran c a b) ≡ f)

-- MOVE D 413 to register x, of the 8 bytes behind the command
unfoldable pub long_moved : ℕ → Stepped
long_moved x = ran_on 0 (0xA1 ∷ A 413 ++ R x ++ 1 ∷ 2 ∷ 3 ∷ 4 ∷ 5 ∷ 6 ∷ 7 ∷ 8 ∷ [])

-- the six bytes of an operand at the address Rx, "then Rx raised by L": form 8
unfoldable pub raising : ℕ → List ℕ
raising x = 8 ∷ 16 * x ∷ 0 ∷ 0 ∷ 0 ∷ 0 ∷ []

-- a step in user mode that ends in an alarm: what its kernel entry tells; the command is at 16
abbrev pub Alarmed : ℕ → List ℕ → ℕ → Type 0
Alarmed number code argument = told (pages_ran number 0 code) ≡ (Ok (step_event.Entered number), argument, 16)

pub record FloatingNumbers : Type 0 where
  -- ---- Document 000, 1.1.3: "Man unterscheidet folgende 5 Fälle". "a) e = e_max ∧ f ≠ 0: w = not a
  -- number (NaN)"
  pub case_a : (k : Kind) (s : Bool) (t : ℕ) → 0 < t → t < 2 ^ n k → number_of k (bits_from k s (e_max k) t) ≡ nan
  -- "b) e = e_max ∧ f = 0: w = (-1)^s × ∞"
  pub case_b : (k : Kind) (s : Bool) → number_of k (bits_from k s (e_max k) 0) ≡ inf s
  -- "c) e = 0 ∧ f ≠ 0: w = (-1)^s × 2^-(e* - 1) × f" and "d) e = 0 ∧ f = 0: w = (-1)^s × 0": the sign
  -- is s, the amount t / 2 ^ (n + e* - 1)
  pub case_c_and_d : (k : Kind) (s : Bool) (t : ℕ) → t < 2 ^ n k
      → HasValue (number_of k (bits_from k s 0 t)) s t (2 ^ (n k + (e_star k - 1)))
  -- "e) 0 < e < e_max: w = (-1)^s × 2^(e - e*) × (1 + f)": the sign is s, the amount (2 ^ n + t) × 2
  -- ^ e / 2 ^ (n + e*)
  pub case_e : (k : Kind) (s : Bool) (e t : ℕ) → 0 < e → e < e_max k → t < 2 ^ n k
      → HasValue (number_of k (bits_from k s e t)) s ((2 ^ n k + t) * 2 ^ e) (2 ^ (n k + e_star k))
  -- every pattern of L bytes is one of these
  pub all_cases : (k : Kind) (x : ℕ) → x < span (kind_length k) → FromFields k x
  -- ---- "Bytes and operations are the IEEE ones". "a NaN result is 7FC00000h or 7FF8000000000000h",
  -- with the flag V
  pub nan_bits : (bits_of F nan ≡ 0x7FC0_0000) × (bits_of D nan ≡ 0x7FF8_0000_0000_0000)
  pub nan_result : (op : Arithmetic) (k : Kind) (a b : ℕ)
      → is_nan (computed op (format_of k) (number_of k a) (number_of k b)) ≡ true
      → arithmetic op k a b ≡ record { bits = bits_of k nan; flags = 2 }
  -- and a NaN, whichever its bits, in either operand gives one
  pub nan_first : (op : Arithmetic) (k : Kind) (a b : ℕ) → is_nan (number_of k a) ≡ true
      → arithmetic op k a b ≡ record { bits = bits_of k nan; flags = 2 }
  pub nan_second : (op : Arithmetic) (k : Kind) (a b : ℕ) → is_nan (number_of k b) ≡ true
      → arithmetic op k a b ≡ record { bits = bits_of k nan; flags = 2 }
  -- ---- a number that is no NaN has one pattern
  pub one_pattern : (k : Kind) (x : ℕ) → x < span (kind_length k) → is_nan (number_of k x) ≡ false
      → bits_of k (number_of k x) ≡ x
  -- "An operand's value is a short or a long floating number": a result is a pattern of its kind's
  -- bytes, and read back it is the number that was computed
  pub result_in_kind : (op : Arithmetic) (k : Kind) (a b : ℕ) → (arithmetic op k a b).bits < span (kind_length k)
  pub result_read_back : (op : Arithmetic) (k : Kind) (a b : ℕ)
      → number_of k (arithmetic op k a b).bits ≡ computed op (format_of k) (number_of k a) (number_of k b)
  -- so its flags are the ones that MOVE sets of it
  pub result_moved : (op : Arithmetic) (k : Kind) (a b : ℕ)
      → moved_float k (arithmetic op k a b).bits ≡ arithmetic op k a b
  -- ---- "MOVE keeps its bits", of every NaN too; its flags are the number's
  pub moved_bits : (k : Kind) (a : ℕ) → (moved_float k a).bits ≡ a
  pub moved_flags : (k : Kind) (a : ℕ) → (moved_float k a).flags ≡ number_flags (number_of k a)
  -- and what a register operand took in it gives again; "D in register x has its high word in x and
  -- its low word in x + 1"
  pub register_keeps : (k : Kind) (x : FloatResult) (i : ℕ) (r : Registers) → length r ≡ 16 → i < 15
      → x.bits < span (kind_length k)
      → bits_in_register k (float_stored k x (Register i) r).registers i ≡ x.bits
  -- ---- "N: below zero, Z: either zero, V: infinite or NaN, C clear"
  pub n_flag : (x : Float) → flag_n (number_flags x) ≡ lt x zero_float
  pub z_flag : (x : Float) → flag_z (number_flags x) ≡ eq x zero_float
  pub v_flag : (x : Float) → flag_v (number_flags x) ≡ (infinite x || is_nan x)
  pub c_flag : (x : Float) → flag_c (number_flags x) ≡ false
  -- of a finite number but zero N is its sign; of both zeros Z alone is set; of the infinities V,
  -- and N where it is the one below
  pub finite_flags : (s : Bool) (a : ℕ) (e : ℤ) → 0 < a → number_flags (fin s a e) ≡ bit s 8
  pub zero_flags : (s : Bool) (e : ℤ) → number_flags (fin s 0 e) ≡ 4
  pub infinity_flags : (s : Bool) → number_flags (inf s) ≡ bit s 8 + 2
  pub nan_flags : number_flags nan ≡ 2
  pub n_or_z : (x : Float) → (flag_n (number_flags x) && flag_z (number_flags x)) ≡ false
  -- with the other sign: Z and V stay, N is set where the number was above zero
  pub n_of_opposite : (x : Float) → flag_n (number_flags (neg x)) ≡ lt zero_float x
  pub z_of_opposite : (x : Float) → flag_z (number_flags (neg x)) ≡ flag_z (number_flags x)
  pub v_of_opposite : (x : Float) → flag_v (number_flags (neg x)) ≡ flag_v (number_flags x)
  -- ---- "CMP with a NaN sets V alone"
  pub nan_compared : (x y : Float) → (is_nan x || is_nan y) ≡ true → compared_floats x y ≡ 2
  -- "otherwise it sets Z or N as for integers and clears V": N if first < second, Z if they are
  -- equal, neither if second < first; and exactly one of these is so
  pub compared-n : (x y : Float) → flag_n (compared_floats x y) ≡ lt x y
  pub compared_z : (x y : Float) → flag_z (compared_floats x y) ≡ eq x y
  pub compared_v : (x y : Float) → flag_v (compared_floats x y) ≡ (is_nan x || is_nan y)
  pub compared_c : (x y : Float) → flag_c (compared_floats x y) ≡ false
  pub one_order : (x y : Float) → (is_nan x || is_nan y) ≡ false → OneOf (lt x y) (eq x y) (lt y x)
  -- it is the order of the values: of ±a / c and ±b / d, that of ±a × d and ±b × c
  pub values_in_order : (x y : Float) (s t : Bool) (a b c d : ℕ) → 0 < c → 0 < d → HasValue x s a c → HasValue y t b d
      → (lt x y ≡ below s (a * d) t (b * c)) × (eq x y ≡ level s (a * d) t (b * c))
  -- a finite number compared with zero has the flags of the number
  pub compared_with_zero : (x : Float) → (infinite x || is_nan x) ≡ false → compared_floats x zero_float ≡ number_flags x
  -- ---- worked steps, in kernel mode. ADD: 1 to 2 is 3. SUB, as for integers: 1 from 3 is 2. MULT: 2
  -- times -3 is -6. DIV: 3 by 2 is 1.5
  pub add_short : ShortGives 0x80 0x3F80_0000 0x4000_0000 0x4040_0000 0
  pub sub_short : ShortGives 0x88 0x3F80_0000 0x4040_0000 0x4000_0000 0
  pub mult_short : ShortGives 0x90 0x4000_0000 0xC040_0000 0xC0C0_0000 8
  pub div_short : ShortGives 0x98 0x4000_0000 0x4040_0000 0x3FC0_0000 0
  pub add_long : LongGives 0x81 0x3FF0_0000_0000_0000 0x4000_0000_0000_0000 0x4008_0000_0000_0000 0
  pub sub_long : LongGives 0x89 0x3FF0_0000_0000_0000 0x4008_0000_0000_0000 0x4000_0000_0000_0000 0
  pub mult_long : LongGives 0x91 0x4000_0000_0000_0000 0xC008_0000_0000_0000 0xC018_0000_0000_0000 8
  pub div_long : LongGives 0x99 0x4000_0000_0000_0000 0x4008_0000_0000_0000 0x3FF8_0000_0000_0000 0
  -- "to nearest, ties to even": 16777216 + 1 is a tie for F, and D holds it; 16777218 + 1 is one
  -- that goes up, to 16777220; 1 by 3 is none
  pub tie_down : ShortGives 0x80 0x3F80_0000 0x4B80_0000 0x4B80_0000 0
  pub tie_up : ShortGives 0x80 0x3F80_0000 0x4B80_0001 0x4B80_0002 0
  pub no_tie_short : ShortGives 0x98 0x4040_0000 0x3F80_0000 0x3EAA_AAAB 0
  pub exact_long : LongGives 0x81 0x3FF0_0000_0000_0000 0x4170_0000_0000_0000 0x4170_0000_1000_0000 0
  pub no_tie_long : LongGives 0x99 0x4008_0000_0000_0000 0x3FF0_0000_0000_0000 0x3FD5_5555_5555_5555 0
  -- 1.1.3, case c: half of 2^-126 is not normalized; half of the smallest number, 2^-149, is a tie,
  -- and goes to 0: Z; half of three times it goes to twice it
  pub not_normalized : ShortGives 0x90 0x3F00_0000 0x0080_0000 0x0040_0000 0
  pub smallest_halved : ShortGives 0x90 0x3F00_0000 0x0000_0001 0 4
  pub thrice_smallest_halved : ShortGives 0x90 0x3F00_0000 0x0000_0003 0x0000_0002 0
  pub smallest_long : LongGives 0x81 1 0 1 0
  -- case b, "Überlauf": twice the largest number is infinite: V
  pub overflow_short : ShortGives 0x90 0x4000_0000 0x7F7F_FFFF 0x7F80_0000 2
  pub overflow_below : ShortGives 0x90 0x4000_0000 0xFF7F_FFFF 0xFF80_0000 (8 + 2)
  pub overflow_long : LongGives 0x81 0x7FEF_FFFF_FFFF_FFFF 0x7FEF_FFFF_0000_0000 0x7FF0_0000_0000_0000 2
  -- "Division by zero raises no alarm": 1 by 0, 1 by -0; 0 by 0 is NaN, and so are ∞ - ∞ and 0 × ∞
  pub one_by_zero : ShortGives 0x98 0 0x3F80_0000 0x7F80_0000 2
  pub one_by_minus_zero : ShortGives 0x98 0x8000_0000 0x3F80_0000 0xFF80_0000 (8 + 2)
  pub one_by_zero_long : LongGives 0x99 0 0x3FF0_0000_0000_0000 0x7FF0_0000_0000_0000 2
  pub zero_by_zero : ShortGives 0x98 0 0 0x7FC0_0000 2
  pub zero_by_zero_long : LongGives 0x99 0 0 0x7FF8_0000_0000_0000 2
  pub infinity_less_infinity : ShortGives 0x88 0x7F80_0000 0x7F80_0000 0x7FC0_0000 2
  pub zero_times_infinity : ShortGives 0x90 0x7F80_0000 0 0x7FC0_0000 2
  -- a NaN of other bits gives these too
  pub one_to_nan : ShortGives 0x80 0x3F80_0000 0xFF80_0001 0x7FC0_0000 2
  -- the zeros: -0 and -0 are -0, 1 from 1 is 0; "Z: either zero"
  pub zeros_added : ShortGives 0x80 0x8000_0000 0x8000_0000 0x8000_0000 4
  pub one_from_one : ShortGives 0x88 0x3F80_0000 0x3F80_0000 0 4
  -- three operands, and in user mode: 3 less 1 is 2
  pub three_operands : register_after 5 (ran_on 0 (0x8C ∷ I 0x3F80_0000 ++ I 0x4040_0000 ++ R 5)) ≡ 0x4000_0000
  pub user_mode_lem : register_after 5 (pages_ran 0 0 (0x8C ∷ I 0x3F80_0000 ++ I 0x4040_0000 ++ R 5)) ≡ 0x4000_0000
  pub no_alarm : (pages_ran 15 0 (0x9C ∷ I 0 ++ I 0x3F80_0000 ++ R 0)).reply.answer ≡ Ok step_event.Done
  -- "MOVE keeps its bits": of a NaN with its sign set, flag V alone
  pub moved_nan : ShortGives 0xA0 0xFF80_0001 0 0xFF80_0001 2
  pub moved_nan_long : LongGives 0xA1 0xFFF0_0000_0000_0001 0 0xFFF0_0000_0000_0001 2
  pub moved_minus_zero : ShortGives 0xA0 0x8000_0000 0 0x8000_0000 4
  pub moved_smallest : ShortGives 0xA0 0x8000_0001 0 0x8000_0001 8
  -- CMP, which leaves R0: 1 with 2: N; -0 with 0: Z; 2 with 1; -1 with -2; infinities; a NaN, with
  -- itself too: V
  pub less : ShortGives 0xA4 0x3F80_0000 0x4000_0000 0x4000_0000 8
  pub equal_zeros : ShortGives 0xA4 0x8000_0000 0 0 4
  pub greater : ShortGives 0xA4 0x4000_0000 0x3F80_0000 0x3F80_0000 0
  pub greater_below_zero : ShortGives 0xA4 0xBF80_0000 0xC000_0000 0xC000_0000 0
  pub equal_infinities : ShortGives 0xA4 0x7F80_0000 0x7F80_0000 0x7F80_0000 4
  pub infinities : ShortGives 0xA4 0xFF80_0000 0x7F80_0000 0x7F80_0000 8
  pub nan_with_itself : ShortGives 0xA4 0x7FC0_0000 0x7FC0_0000 0x7FC0_0000 2
  pub less_long : LongGives 0xA5 0x3FF0_0000_0000_0000 0x4000_0000_0000_0000 0x4000_0000_0000_0000 8
  -- ---- operands. "D in register x has its high word in x and its low word in x + 1": R12 and R13,
  -- R13 and R14; and from R12 to memory, "highest first"
  pub long_in_r12 : (register_after 12 (long_moved 12) ≡ 0x0102_0304) × (register_after 13 (long_moved 12) ≡ 0x0506_0708)
  pub long_in_r13 : (register_after 13 (long_moved 13) ≡ 0x0102_0304) × (register_after 14 (long_moved 13) ≡ 0x0506_0708)
  pub long_from_r12 : take 8 (drop 480
      (step_of (kernel_desk 12 0x0102_0304) (memory_with 512 (0xA1 ∷ R 12 ++ A 480))).memory)
      ≡ 1 ∷ 2 ∷ 3 ∷ 4 ∷ 0 ∷ 0 ∷ 0 ∷ 0 ∷ []
  -- form 8 raises by 8 for D, by 4 for F
  pub raised_by_8 : register_after 0 (ran_on 413 (0xA1 ∷ raising 0 ++ R 2)) ≡ 421
  pub raised_by_4 : register_after 0 (ran_on 413 (0xA0 ∷ raising 0 ++ R 2)) ≡ 417
  -- "Alarm 14 also covers form 1 for D and, in form 2, register 15 for F and 14 or 15 for D", with
  -- the operand's place; F in R14 is none
  pub long_direct : Alarmed 14 (0xA1 ∷ I 0 ++ R 0) 1
  pub long_direct_second : Alarmed 14 (0xA5 ∷ R 0 ++ I 0) 2
  pub long_in_r14 : Alarmed 14 (0xA1 ∷ A 612 ++ R 14) 2
  pub long_from_r14 : Alarmed 14 (0xA1 ∷ R 14 ++ A 612) 1
  pub long_in_r15 : Alarmed 14 (0x85 ∷ A 612 ++ A 612 ++ R 15) 3
  pub short_in_r15 : Alarmed 14 (0xA0 ∷ I 0 ++ R 15) 2
  pub short_from_r15 : Alarmed 14 (0xA0 ∷ R 15 ++ A 612) 1
  pub short_in_r14 : register_after 14 (ran_on 0 (0xA0 ∷ I 0x3F80_0000 ++ R 14)) ≡ 0x3F80_0000
  -- 01: "Form 1 is no destination", for F as well
  pub short_to_direct : Alarmed 14 (0xA0 ∷ R 0 ++ I 0) 2
  -- 12: bytes from 80h on that are not in the table
  pub unknown_82h : Alarmed 12 (0x82 ∷ []) 0x82
  pub unknown_a6h : Alarmed 12 (0xA6 ∷ []) 0xA6
  pub unknown_f_fh : Alarmed 12 (0xFF ∷ []) 0xFF

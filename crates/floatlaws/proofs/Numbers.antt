-- Patterns of a kind's bytes and the numbers that they are: one pattern for a number, results read
-- back, what MOVE keeps.
use Prim.Native.Nat.{ℕ, ◌+◌, ◌*◌, ◌/◌, ◌%◌, ◌<◌}
use mathlib.Core.Path.{◌≡◌, refl}
use mathlib.Core.Bool.{false, not}
use native.Mathlib.Nat.{mod-eq_of_lt}
use native.Mathlib.Omega.{arith}
use lib.Dec.{T}
use lib.Ieee.{Float, Format, top, is_nan, fits, of_bits}
use lib.Ieee.Bits.{of_bits-to_bits, to_bits-lt, to_bits-of_bits}
use lib.Ieee.Fits.{add-fits, sub-fits, mul-fits, div-fits}
use lib.ListN.{length, set, length-set}
use lib.Seq.{get_or-set_same, get_or-set_other}
use Rattle.machine.specs.declared.Arithmetic.{Arithmetic}
use Rattle.machine.specs.declared.Arithmetic.TheVariants.{Add, Sub, Mult, Div}
use Rattle.machine.specs.declared.Kind.{Kind}
use Rattle.machine.specs.declared.Kind.TheVariants.{F, D}
use Rattle.machine.specs.declared.FloatResult.{FloatResult}
use Rattle.machine.specs.declared.Target.TheVariants.{Register}
use Rattle.machine.specs.Words.{kind_length, span}
use Rattle.machine.specs.State.{Registers}
use Rattle.machine.specs.Integers.{natural}
use Rattle.machine.specs.Floats.{format_of, number_of, bits_of, number_flags, computed, arithmetic, moved_float}
use Rattle.machine.specs.FloatCode.{bits_in_register, bits_to_register}
use Rattle.machine.specs.Commands.{float_stored}

-- the patterns of a kind's format are those of its bytes
pub width : (k : Kind) → 2 * top (format_of k) ≡ span (kind_length k)
width F = refl
width D = refl

no_nan : (x : Float) → is_nan x ≡ false → T (not (is_nan x))
no_nan x h = rw h tt

pub one_pattern : (k : Kind) (x : ℕ) → x < span (kind_length k) → is_nan (number_of k x) ≡ false
    → bits_of k (number_of k x) ≡ x
one_pattern k x h q =
    let e : natural (kind_length k) x ≡ x = mod-eq_of_lt h in
    let small : x < 2 * top (format_of k) = rw (width k) h in
    let q2 : is_nan (of_bits (format_of k) x) ≡ false = rw e at q in
    rw e (to_bits-of_bits (format_of k) x small (no_nan (of_bits (format_of k) x) q2))

computed_fits : (op : Arithmetic) (f : Format) (x y : Float) → T (fits f (computed op f x y))
unfolding computed
computed_fits Add f x y = add-fits f y x
computed_fits Sub f x y = sub-fits f y x
computed_fits Mult f x y = mul-fits f y x
computed_fits Div f x y = div-fits f y x

pub result_in_kind : (op : Arithmetic) (k : Kind) (a b : ℕ) → (arithmetic op k a b).bits < span (kind_length k)
unfolding arithmetic
result_in_kind op k a b =
    let r = computed op (format_of k) (number_of k a) (number_of k b) in
    rw (width k) at (to_bits-lt (format_of k) r (computed_fits op (format_of k) (number_of k a) (number_of k b)))

pub result_read_back : (op : Arithmetic) (k : Kind) (a b : ℕ)
    → number_of k (arithmetic op k a b).bits ≡ computed op (format_of k) (number_of k a) (number_of k b)
unfolding arithmetic
result_read_back op k a b =
    let r = computed op (format_of k) (number_of k a) (number_of k b) in
    rw (mod-eq_of_lt (result_in_kind op k a b))
    (of_bits-to_bits (format_of k) r (computed_fits op (format_of k) (number_of k a) (number_of k b)))

pub result_moved : (op : Arithmetic) (k : Kind) (a b : ℕ)
    → moved_float k (arithmetic op k a b).bits ≡ arithmetic op k a b
unfolding moved_float arithmetic
result_moved op k a b = rw (result_read_back op k a b)

-- ---- MOVE

pub moved_bits : (k : Kind) (a : ℕ) → (moved_float k a).bits ≡ a
unfolding moved_float
moved_bits k a = refl

pub moved_flags : (k : Kind) (a : ℕ) → (moved_float k a).flags ≡ number_flags (number_of k a)
unfolding moved_float
moved_flags k a = refl

pub register_keeps : (k : Kind) (x : FloatResult) (i : ℕ) (r : Registers) → length r ≡ 16 → i < 15
    → x.bits < span (kind_length k)
    → bits_in_register k (float_stored k x (Register i) r).registers i ≡ x.bits
unfolding bits_in_register float_stored bits_to_register
register_keeps F x i r l h q = rw (get_or-set_same r i (x.bits % span 4) 0 (omega arith)) (omega arith)
register_keeps D x i r l h q =
    let hi = x.bits / span 4 % span 4 in
    let lo = x.bits % span 4 in
    let e : (i + 1) % 16 ≡ i + 1 = omega arith in
    let c = length-set r i hi in
    rw (
      e,
      get_or-set_same (set r i hi) (i + 1) lo 0 (omega arith),
      get_or-set_other (set r i hi) (i + 1) i lo 0 (λ z. omega arith),
      get_or-set_same r i hi 0 (omega arith),
    )
    (omega arith)

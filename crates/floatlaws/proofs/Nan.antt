-- What is no number: a NaN in either operand, or a result that is one, gives the kind's one NaN.
use Prim.Native.Nat.{ℕ}
use mathlib.Core.Path.{◌≡◌, refl}
use mathlib.Core.Bool.{true}
use lib.Ieee.{Float, nan, inf, fin, Format, neg, lt, eq, is_nan, add, sub, mul, div, to_bits}
use Rattle.machine.specs.declared.Arithmetic.{Arithmetic}
use Rattle.machine.specs.declared.Arithmetic.TheVariants.{Add, Sub, Mult, Div}
use Rattle.machine.specs.declared.Kind.{Kind}
use Rattle.machine.specs.declared.Kind.TheVariants.{F, D}
use Rattle.machine.specs.Floats.{format_of, number_of, bits_of, infinite, number_flags, computed, arithmetic}

is_nan_lem : (x : Float) → is_nan x ≡ true → x ≡ nan
unfolding is_nan
is_nan_lem nan h = refl
is_nan_lem (inf s) h = cc
is_nan_lem (fin s m e) h = cc

pub nan_bits : (bits_of F nan ≡ 0x7FC0_0000) × (bits_of D nan ≡ 0x7FF8_0000_0000_0000)
unfolding to_bits
nan_bits = (refl, refl)

pub nan_flags : number_flags nan ≡ 2
unfolding number_flags lt eq is_nan infinite
nan_flags = refl

pub nan_result : (op : Arithmetic) (k : Kind) (a b : ℕ)
    → is_nan (computed op (format_of k) (number_of k a) (number_of k b)) ≡ true
    → arithmetic op k a b ≡ record { bits = bits_of k nan; flags = 2 }
unfolding arithmetic
nan_result op k a b h = rw (is_nan_lem (computed op (format_of k) (number_of k a) (number_of k b)) h, nan_flags)

add_nan : (f : Format) (x : Float) → add f x nan ≡ nan
unfolding add
add_nan f nan = refl
add_nan f (inf s) = refl
add_nan f (fin s m e) = refl

computed_first : (op : Arithmetic) (f : Format) (y : Float) → computed op f nan y ≡ nan
unfolding computed sub neg mul div
computed_first Add f y = add_nan f y
computed_first Sub f y = add_nan f y
computed_first Mult f nan = refl
computed_first Mult f (inf s) = refl
computed_first Mult f (fin s m e) = refl
computed_first Div f nan = refl
computed_first Div f (inf s) = refl
computed_first Div f (fin s m e) = refl

computed_second : (op : Arithmetic) (f : Format) (x : Float) → computed op f x nan ≡ nan
unfolding computed add sub mul div
computed_second Add f x = refl
computed_second Sub f x = refl
computed_second Mult f x = refl
computed_second Div f x = refl

pub nan_first : (op : Arithmetic) (k : Kind) (a b : ℕ) → is_nan (number_of k a) ≡ true
    → arithmetic op k a b ≡ record { bits = bits_of k nan; flags = 2 }
unfolding is_nan
nan_first op k a b h =
    nan_result op k a b (rw (is_nan_lem (number_of k a) h, computed_first op (format_of k) (number_of k b)))

pub nan_second : (op : Arithmetic) (k : Kind) (a b : ℕ) → is_nan (number_of k b) ≡ true
    → arithmetic op k a b ≡ record { bits = bits_of k nan; flags = 2 }
unfolding is_nan
nan_second op k a b h =
    nan_result op k a b (rw (is_nan_lem (number_of k b) h, computed_second op (format_of k) (number_of k a)))

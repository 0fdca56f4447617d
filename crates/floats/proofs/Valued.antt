-- Values of one kind: the number of some bits, and what two of them combine to.
use Rattle.std.proofs.Common.{◌≡◌, ℕ, refl}
use Rattle.machine.specs.declared.Arithmetic.{Arithmetic}
use Rattle.machine.specs.declared.Kind.{Kind}
use Rattle.machine.specs.declared.Kind.TheVariants.{F, D}
use Rattle.machine.specs.Floats.{number_of, arithmetic}
use Rattle.floats.specs.Values.{float_of, number_in, combined, result_in}

pub number_of_lem : (k : Kind) (a : ℕ) → number_in (float_of k a) ≡ number_of k a
number_of_lem F a = refl
number_of_lem D a = refl

-- an operation on two values of one kind is the operation on their bits
pub combined_result : (op : Arithmetic) (k : Kind) (a b : ℕ)
    → result_in (combined op (float_of k a) (float_of k b)) ≡ arithmetic op k a b
unfolding arithmetic
combined_result op F a b = refl
combined_result op D a b = refl

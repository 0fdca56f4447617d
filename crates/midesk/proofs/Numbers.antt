-- What `answer_number` answers is the number of the answer.
use Rattle.std.specs.Prelude.{Result, Ok, Err}
use Prim.Native.Nat.{ℕ}
use mathlib.Core.Path.{◌≡◌}
use Rattle.machine.specs.Calls.{number_or_0, AnswerNumber}

pub number_told : {R : Type 0} (number : R → ℕ) (a : Result (Unit {0}) R) (n : ℕ)
    → AnswerNumber (λ k i. i ≡ number k) a n → n ≡ number_or_0 number a
number_told number (Ok u) n e = e
number_told number (Err k) n e = e

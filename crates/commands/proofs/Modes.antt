-- The commands that only one mode allows are those of the bytes 0, 3 and 5: one test of each byte,
-- which the prover computes.
use Prim.Native.Nat.{ℕ, ◌<◌}
use mathlib.Core.Path.{◌≡◌, refl}
use mathlib.Core.Bool.{Bool, true, false, not, ◌||◌}
use mathlib.Core.Option.{Option, none, some}
use native.Mathlib.Omega.{arith}
use lib.Dec.{eqb}
use Rattle.machine.specs.Words.{pick}
use Rattle.machine.proofs.CommandBytes.{values, same}
use Rattle.machine.specs.Code.{Command, common, user_only, kernel_only, Known, known, known_in, table}

-- in user mode or not, the command alarms with 13
abbrev pub forbids : Bool → Command → Bool
forbids u (common c) = false
forbids u (user_only s) = not u
forbids u (kernel_only s) = u

-- an unknown byte alarms with 12
abbrev pub forbids_known : Bool → Option Known → Bool
forbids_known u none = false
forbids_known u (some k) = forbids u k.command

abbrev by_byte : Bool → ℕ → Bool
by_byte u b = pick u (eqb b 0 || eqb b 5) (eqb b 3)

computed : (u : Bool) → values (λ b. forbids_known u (known b)) 256 0 ≡ values (by_byte u) 256 0
unfolding known known_in table
computed true = refl
computed false = refl

pub forbids_byte : (u : Bool) (b : ℕ) → b < 256 → forbids_known u (known b) ≡ pick u (eqb b 0 || eqb b 5) (eqb b 3)
forbids_byte u b l = same (λ n. forbids_known u (known n)) (by_byte u) 256 0 (computed u) b (omega arith) (omega arith)

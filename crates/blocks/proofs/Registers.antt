-- The registers from one on are what is left of their list.
use Prim.Native.Nat.{ℕ, zero, suc, ◌+◌}
use mathlib.Core.Path.{◌≡◌, sym}
use native.Mathlib.Omega.{arith}
use lib.ListN.{length, drop, drop_of_length-le}
use lib.Seq.{drop-cons}
use Rattle.machine.specs.State.{Registers, registers_from}

pub registers_left : (k i : ℕ) (r : Registers) → i + k ≡ length r → registers_from k i r ≡ drop i r
unfolding registers_from
registers_left zero i r l = sym (drop_of_length-le r {i = i} (omega arith))
registers_left (suc k) i r l = rw (drop-cons r i 0 (omega arith), registers_left k (suc i) r (omega arith))

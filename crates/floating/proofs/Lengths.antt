-- Kinds and their lengths.
use Prim.Native.Nat.{◌≤◌}
use native.Mathlib.Omega.{arith}
use Rattle.machine.specs.declared.Kind.{Kind}
use Rattle.machine.specs.declared.Kind.TheVariants.{F, D}
use Rattle.machine.specs.Words.{kind_length}

pub kind_bound : (k : Kind) → kind_length k ≤ 8
kind_bound F = omega arith
kind_bound D = omega arith

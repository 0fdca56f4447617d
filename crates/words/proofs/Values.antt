-- Sizes and their lengths.
use Rattle.std.proofs.Common.{◌≤◌, arith}
use Rattle.machine.specs.declared.Size.{Size}
use Rattle.machine.specs.declared.Size.TheVariants.{B, H, W}
use Rattle.machine.specs.Words.{length_of}

pub length_bounds : (s : Size) → (1 ≤ length_of s) × (length_of s ≤ 4)
length_bounds B = omega arith
length_bounds H = omega arith
length_bounds W = omega arith

-- `to_register` is right: an F is one register, a D two, the high word in the first.
use Prim.Native.Nat.{◌/◌, ◌%◌}
use mathlib.Core.Path.{◌≡◌}
use native.Mathlib.Omega.{arith}
use Rattle.machine.specs.FloatCode.{bits_to_register}
use Rattle.floating.proofs.to_register.Goals as goal

pub returns-in-F : goal.returns-in-F
unfolding bits_to_register
returns-in-F c = rw c.in-F.is

pub returns-in-D : goal.returns-in-D
unfolding bits_to_register
returns-in-D c =
    let bits = c.args.bits in
    let high : bits / 4294967296 % 4294967296 ≡ bits / 4294967296 = omega arith in
    rw (c.in-D.is, ← c.next-j.ensures.place, high)

-- `extend` is right: a byte with its highest bit set stands for 256 less, and a word with it set
-- for 2 ^ 32 less.
use native.Mathlib.Omega.{arith}
use Prim.Native.Nat.{◌%◌}
use borrow.Author.Tests.{le-leb, lt-leb}
use Rattle.machine.specs.Integers.{negative}
use Rattle.machine.proofs.Magnitudes.{kept_extension}
use Rattle.integers.proofs.extend.Goals as goal

pub returns-then-x-ge128 : goal.returns-then-x-ge128
unfolding negative
returns-then-x-ge128 c =
    let x = c.args.a % 256 in
    rw (kept_extension 1 x (omega arith) 4 (omega arith), le-leb 128 x c.if-x-ge128.true)

pub returns-else-x-ge128 : goal.returns-else-x-ge128
unfolding negative
returns-else-x-ge128 c =
    let x = c.args.a % 256 in
    rw (kept_extension 1 x (omega arith) 4 (omega arith), lt-leb 128 x c.if-x-ge128.false)

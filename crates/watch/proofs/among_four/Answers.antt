-- `among_four` is right: four elements one by one.
use Prim.Native.Nat.{◌+◌}
use mathlib.Core.Path.{sym, ◌∙◌}
use native.Mathlib.Omega.{arith}
use Rattle.watch.proofs.Parts.{among-at, among_quarters}
use Rattle.watch.proofs.among_four.Goals as goal

pub returns : goal.returns
returns c =
    let a = c.args in
    let i = a.i in
    let at = among-at a.r15 a.addresses.now in
    sym
    (among_quarters a.r15 a.addresses.now 1 i
    ∙ rw (at i (omega arith), at (i + 1) (omega arith), at (i + 2) (omega arith), at (i + 3) (omega arith)))

-- `fill` is right: a part of the memory, replaced by that many copies, is as the copies leave it.
use mathlib.Core.Path.{◌≡◌, ◌∙◌, ap}
use Prim.Native.Nat.{◌+◌, ◌-◌}
use lib.ListN.{replicate, length-replicate}
use native.Mathlib.Omega.{arith}
use Rattle.std.proofs.Common.{length-take, length-drop}
use Rattle.load.proofs.Putting.{part_laid}
use Rattle.load.proofs.fill.Goals as goal

pub returns-then-count-gt0 : goal.returns-then-count-gt0
returns-then-count-gt0 c =
    let a = c.args in
    let copies : c.fill.new.self ≡ replicate a.count a.byte =
    c.fill.ensures.after (λ y e. e) ∙ ap (λ n. replicate n a.byte) (simp (length-take, length-drop) (omega (arith, c.requires c.if-count-gt0.true)))
    in
    part_laid a.mem.now a.at (a.at + a.count - a.at) c.fill.new.self (replicate a.count a.byte) copies
    (omega (arith, length-replicate a.count a.byte)) (omega (arith, c.requires c.if-count-gt0.true))

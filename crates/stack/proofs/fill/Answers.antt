-- `fill` is right: a turn lays the next word, and the last one is raised.
use Prim.Native.Nat.{ℕ, suc, ◌<◌, ◌-◌, ◌+◌, ◌*◌}
use mathlib.Core.Path.{◌≡◌, refl, sym, ◌∙◌}
use native.Mathlib.Numerals.{add-one}
use native.Mathlib.Omega.{arith}
use lib.ListN.{set}
use Rattle.machine.specs.State.{Registers}
use Rattle.machine.specs.Words.{Memory, raised, word_at, words_at}
use Rattle.stack.proofs.fill.Invariants.{laid_from}
use Rattle.stack.proofs.fill.Goals as goal

next_laid : (i : ℕ) (m : Memory) (a : ℕ) (r : Registers) → i < 14
    → laid_from i m a r ≡ laid_from (i + 1) m a (set r i (word_at m (a + 4 * i)))
unfolding words_at
next_laid i m a r h =
    let n : 14 - i ≡ suc (14 - (i + 1)) = omega arith in
    let e : a + 4 * i + 4 ≡ a + 4 * (i + 1) = omega arith in
    rw (n, e, add-one i)

last_laid : (m : Memory) (a : ℕ) (r : Registers) → laid_from 14 m a r ≡ set r 14 (raised (word_at m (a + 56)) 4)
unfolding words_at
last_laid m a r = refl

pub loop-i-preserved : goal.loop-i-preserved
loop-i-preserved c =
    let turn = c.loop-i in
    let a = c.args in
    rw c.word.ensures
    (sym (next_laid turn.i a.mem.now a.at turn.regs (omega arith)) ∙ turn.invariant)

pub returns : goal.returns
returns c =
    let end = c.loop-i in
    let a = c.args in
    let all : end.i ≡ 14 = omega arith in
    rw (c.plus.ensures, c.word-2.ensures)
    (sym (last_laid a.mem.now a.at end.regs) ∙ rw all at end.invariant)

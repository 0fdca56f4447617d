use Rattle.std.proofs.Common.{◌≡◌, refl, arith}
use Rattle.machine.specs.Words.{bytes_of_words}
use Rattle.machine.specs.State.{registers_from}
use Rattle.stack.proofs.Stack.{next_laid, last_laid}
use Rattle.stack.proofs.lay.Goals as goal

pub loop-i-init : goal.loop-i-init
unfolding registers_from bytes_of_words
loop-i-init c = refl

pub loop-i-preserved : goal.loop-i-preserved
loop-i-preserved c =
    let l = c.loop-i in
    let a = c.args in
    rw (c.value_to.ensures, l.invariant) (next_laid a.regs.now a.bytes.now a.at l.i)

pub returns : goal.returns
returns c =
    let l = c.loop-i in
    let a = c.args in
    let all : l.i ≡ 14 = omega arith in
    rw (c.value_to-2.ensures, c.minus.ensures, l.invariant, all)
    (last_laid a.regs.now a.bytes.now a.at)

use Rattle.std.proofs.Common.{◌≡◌, ◌<◌, length, sym, refl, ◌∙◌, add-one, arith, length-set, take_all, take-suc-set, rules}
use Rattle.machine.specs.Words.{words_at}
use Rattle.machine.proofs.Blocks.{words_more}
use Rattle.words.proofs.sixteen.Goals as goal

pub loop-i-init : goal.loop-i-init
loop-i-init c = (search rules, search rules, unfold words_at in refl)

pub loop-i-preserved : goal.loop-i-preserved
loop-i-preserved c =
    let below : c.loop-i.i < length c.loop-i.words = omega arith in (
      omega arith,
      simp length-set c.loop-i.invariant.1,
      rw (add-one, take-suc-set, words_more, c.loop-i.invariant.2, c.word.ensures),
    )

pub returns : goal.returns
returns c =
    let l = c.loop-i in
    let all : l.i ≡ 16 = omega arith in
    sym (take_all 16 l.words (omega arith)) ∙ rw all at l.invariant.2

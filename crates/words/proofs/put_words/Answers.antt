use Rattle.std.proofs.Common.{sym, ◌∙◌, arith, drop_of_length-le}
use Rattle.machine.specs.Words.{bytes_of_words}
use Rattle.machine.proofs.Blocks.{sets_next}
use Rattle.words.proofs.put_words.Goals as goal

pub loop-i-preserved : goal.loop-i-preserved
loop-i-preserved c =
    let a = c.args in (
      omega arith,
      c.value_to.auto.bytes ∙ c.loop-i.invariant.1,
      rw c.value_to.ensures
          (sym (sets_next c.loop-i.i a.words.now c.loop-i.bytes a.at (omega arith)) ∙ c.loop-i.invariant.2),
    )

pub returns : goal.returns
unfolding bytes_of_words
returns c =
    let l = c.loop-i in
    rw (drop_of_length-le c.args.words.now {i = l.i} (omega arith)) at l.invariant.2

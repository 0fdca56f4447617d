use Rattle.std.proofs.Common.{arith, length-set, ◌∙◌}
use Rattle.watch.proofs.Parts.{first_again}
use Rattle.watch.proofs.filled.Goals as goal

pub loop-i-preserved : goal.loop-i-preserved
loop-i-preserved c =
    let turn = c.loop-i in
    record {
      places = length-set turn.all turn.i _ ∙ turn.invariant.places;
      same = λ r15. first_again turn.all turn.i (omega arith) (omega arith) r15 ∙ turn.invariant.same r15;
    }

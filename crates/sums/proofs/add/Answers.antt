-- `add` is right: the sum by its last L bytes and its carry, and V where the biased sum leaves the
-- range.
use Rattle.std.proofs.Common.{◌+◌, rules}
use Rattle.machine.specs.Words.{length_of}
use Rattle.machine.specs.Integers.{added}
use Rattle.machine.proofs.Results.{kept_sum}
use Rattle.machine.proofs.Biased.{biased, biased_sum_fits}
use Rattle.integers.proofs.Sized.{some_bytes, low_word}
use Rattle.sums.proofs.add.Goals as goal

pub returns : goal.returns
unfolding added biased
returns c = let s = c.args.size in
    let p = c.low-p.result in
    let q = c.low-q.result in record {
      value = simp (
        c.result.ensures.value,
        c.biased-2.ensures.value,
        c.biased.ensures.value,
        c.span_of-m.ensures.value,
        c.half_of-h.ensures.value,
        c.low-x.ensures.value,
        low_word s (q + p),
        ← c.low-p.ensures.value,
        ← c.low-q.ensures.value,
        kept_sum (length_of s) p q,
        biased_sum_fits (length_of s) p q (some_bytes s) c.low-p.ensures.small c.low-q.ensures.small,
      );
      small = search rules;
    }

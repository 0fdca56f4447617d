-- `subtract` is right: the difference by its last L bytes and its borrow, and V where the biased
-- one leaves the range.
use Rattle.std.proofs.Common.{◌+◌, ◌-◌, ◌%◌, ◌^◌, arith, rules}
use Rattle.machine.specs.Words.{length_of}
use Rattle.machine.specs.Integers.{subtracted}
use Rattle.machine.proofs.Results.{kept_difference}
use Rattle.machine.proofs.Biased.{biased, biased_difference_fits}
use Rattle.integers.proofs.Sized.{some_bytes, low_difference}
use Rattle.sums.proofs.subtract.Goals as goal

pub returns : goal.returns
unfolding subtracted biased
returns c = let s = c.args.size in
    let p = c.low-p.result in
    let q = c.low-q.result in record {
      value = simp (
        c.result.ensures.value,
        c.biased-t.ensures.value,
        c.biased-s.ensures.value,
        c.half_of-h.ensures.value,
        c.low-x.ensures.value,
        low_difference s p q ((q + (2 ^ 32 - p)) % 2 ^ 32) (omega arith) (omega arith),
        ← c.low-p.ensures.value,
        ← c.low-q.ensures.value,
        kept_difference (length_of s) p q c.low-p.ensures.small,
        biased_difference_fits (length_of s) p q (some_bytes s) c.low-p.ensures.small c.low-q.ensures.small,
      );
      small = search rules;
    }

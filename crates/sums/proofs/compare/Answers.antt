-- `compare` is right: biased numbers are in the order of the signed ones.
use Rattle.std.proofs.Common.{rules}
use Rattle.machine.specs.Words.{length_of}
use Rattle.machine.specs.Integers.{compared}
use Rattle.machine.proofs.Biased.{biased, biased_order}
use Rattle.integers.proofs.Sized.{some_bytes}
use Rattle.sums.proofs.compare.Goals as goal

pub returns : goal.returns
unfolding compared biased
returns c = let s = c.args.size in
    let p = c.low-p.result in
    let q = c.low-q.result in record {
      value = simp (
        c.flags.ensures.value,
        c.biased-2.ensures.value,
        c.biased.ensures.value,
        ← c.low-p.ensures.value,
        ← c.low-q.ensures.value,
        biased_order (length_of s) p q (some_bytes s) c.low-p.ensures.small c.low-q.ensures.small,
      );
      small = search rules;
    }

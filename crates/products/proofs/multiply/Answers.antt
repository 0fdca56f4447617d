-- `multiply` is right: the product by its last L bytes, and V by the product of the magnitudes.
use Rattle.std.proofs.Common.{◌*◌, arith, rules}
use Rattle.machine.specs.Words.{length_of}
use Rattle.machine.specs.Integers.{multiplied}
use Rattle.machine.proofs.Results.{kept_product}
use Rattle.machine.proofs.Magnitudes.{magnitude, product_fits}
use Rattle.integers.proofs.Sized.{some_bytes, span-word, low_word}
use Rattle.products.proofs.Words.{product_of_words}
use Rattle.products.proofs.multiply.Goals as goal

pub overflow_mul-q : goal.overflow_mul-q
overflow_mul-q c = record { fits = product_of_words c.low-q.result c.low-p.result (search rules) (search rules) }

pub overflow_mul-n : goal.overflow_mul-n
overflow_mul-n c =
    let h = span-word c.args.size in
    let n = c.magnitude.result in
    record { fits = product_of_words n c.magnitude-2.result (omega arith) (omega arith) }

pub returns : goal.returns
unfolding multiplied magnitude
returns c = let s = c.args.size in
    let p = c.low-p.result in
    let q = c.low-q.result in record {
      value = simp (
        c.result.ensures.value,
        c.in_range.ensures,
        c.magnitude-2.ensures.value,
        c.magnitude.ensures.value,
        c.signs_differ-negative.ensures,
        c.low-x.ensures.value,
        low_word s (q * p),
        ← c.low-p.ensures.value,
        ← c.low-q.ensures.value,
        kept_product (length_of s) p q,
        product_fits (length_of s) p q (some_bytes s) c.low-p.ensures.small c.low-q.ensures.small,
      );
      small = search rules;
    }

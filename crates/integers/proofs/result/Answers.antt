-- `result` is right: N by the sign, Z by comparison with 0, V and C as they were given.
use borrow.Author.Rules.{rules}
use Rattle.machine.specs.Integers.{result_of}
use Rattle.integers.proofs.result.Goals as goal

pub returns : goal.returns
unfolding result_of
returns c = record {
  value = rw (c.flags-f.ensures.value, c.is_negative.ensures);
  small = search rules;
}

-- `value_at` is right for each size: its bytes, highest first, make up the number.
use Rattle.std.proofs.Common.{◌∙◌, arith}
use Rattle.machine.proofs.Bytes.{one_byte_value, two_byte_value, four_byte_value}
use Rattle.words.proofs.value_at.Goals as goal

pub bounds-bytes-a : goal.bounds-bytes-a
bounds-bytes-a c =
    omega (arith, rw c.in-B.is at c.requires)

pub bounds-bytes-a-in-H : goal.bounds-bytes-a-in-H
bounds-bytes-a-in-H c =
    omega (arith, rw c.in-H.is at c.requires)

pub bounds-bytes-a-in-H-2 : goal.bounds-bytes-a-in-H-2
bounds-bytes-a-in-H-2 c =
    omega (
      arith,
      rw c.in-H.is
          at c.requires,
    )

pub word-requires : goal.word-requires
word-requires c = omega (arith, rw c.in-W.is at c.requires)

pub returns-in-B : goal.returns-in-B
returns-in-B c = rw c.in-B.is (c.wide.ensures.0 ∙ one_byte_value _ _)

pub returns-in-H : goal.returns-in-H
returns-in-H c =
    rw (
      c.in-H.is,
      c.wide-in-H.ensures.0,
      c.wide-in-H-2.ensures.0,
    ) (two_byte_value _ _)

pub returns-in-W : goal.returns-in-W
returns-in-W c = rw c.in-W.is (c.word.ensures ∙ four_byte_value _ _)

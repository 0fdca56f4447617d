-- `value_to` is right for each size: its bytes go one after the other to the places from a on.
use Rattle.std.proofs.Common.{arith, length-set}
use Rattle.words.proofs.Bytes.{one_byte_laid, two_bytes_laid, four_bytes_laid}
use Rattle.words.proofs.value_to.Goals as goal

pub bounds-bytes-a : goal.bounds-bytes-a
bounds-bytes-a c = omega (arith, rw c.in-B.is at c.requires)

pub bounds-bytes-a-in-H : goal.bounds-bytes-a-in-H
bounds-bytes-a-in-H c = omega (arith, rw c.in-H.is at c.requires)

pub bounds-bytes-a-in-H-2 : goal.bounds-bytes-a-in-H-2
bounds-bytes-a-in-H-2 c = simp length-set (omega (arith, rw c.in-H.is at c.requires))

pub bounds-bytes-a-in-W : goal.bounds-bytes-a-in-W
bounds-bytes-a-in-W c = omega (arith, rw c.in-W.is at c.requires)

pub bounds-bytes-a-in-W-2 : goal.bounds-bytes-a-in-W-2
bounds-bytes-a-in-W-2 c = simp length-set (omega (arith, rw c.in-W.is at c.requires))

pub bounds-bytes-a-in-W-3 : goal.bounds-bytes-a-in-W-3
bounds-bytes-a-in-W-3 c = simp length-set (omega (arith, rw c.in-W.is at c.requires))

pub bounds-bytes-a-in-W-4 : goal.bounds-bytes-a-in-W-4
bounds-bytes-a-in-W-4 c = simp length-set (omega (arith, rw c.in-W.is at c.requires))

pub returns-in-B : goal.returns-in-B
returns-in-B c = rw c.in-B.is (one_byte_laid _ _ _)

pub returns-in-H : goal.returns-in-H
returns-in-H c = rw c.in-H.is (two_bytes_laid _ _ _)

pub returns-in-W : goal.returns-in-W
returns-in-W c = rw c.in-W.is (four_bytes_laid _ _ _)

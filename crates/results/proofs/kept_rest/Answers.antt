-- `kept_rest` is right for each size: the high part of the old number and the low part of the new
-- one.
use native.Mathlib.Omega.{arith}
use Rattle.machine.specs.Commands.{kept_rest}
use Rattle.results.proofs.kept_rest.Goals as goal

pub returns-in-B : goal.returns-in-B
unfolding kept_rest
returns-in-B c = rw c.in-B.is (omega arith)

pub returns-in-H : goal.returns-in-H
unfolding kept_rest
returns-in-H c = rw c.in-H.is (omega arith)

pub returns-in-W : goal.returns-in-W
unfolding kept_rest
returns-in-W c = rw c.in-W.is (omega arith)

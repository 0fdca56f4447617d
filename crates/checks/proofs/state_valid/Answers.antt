-- `state_valid` is right: the first test is the status, the second the bit of level 0.
use native.Mathlib.Nat.{div-one}
use Rattle.machine.specs.State.{is_pending}
use Rattle.checks.proofs.state_valid.Goals as goal

pub returns-then-is_valid : goal.returns-then-is_valid
unfolding is_pending
returns-then-is_valid c = simp (← c.is_valid.ensures, c.if-is_valid.true, div-one)

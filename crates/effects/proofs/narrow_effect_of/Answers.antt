-- `narrow_effect_of` is right: each arm's bytes are of its size and ask for what its calls give,
-- whatever the flags, and of other bytes nothing is said.
use mathlib.Core.Path.{refl}
use native.Mathlib.Nat.{zero-mod}
use Rattle.machine.specs.declared.Size.TheVariants.{B, H}
use Rattle.machine.specs.Code.{MOVE, CLEAR, MOVEN, MOVEC, OR, ANDNOT, XOR, ADD, SUB, MULT, table, known_in, known}
use Rattle.machine.specs.Integers.{operate}
use Rattle.actions.specs.Actions.{action_of}
use Rattle.effects.proofs.Asking.{acts, either_acts}
use Rattle.effects.proofs.narrow_effect_of.Goals as goal

pub returns-in-16 : goal.returns-in-16
unfolding action_of known known_in table operate
returns-in-16 c = rw c.narrow.ensures (acts MOVE B (rw c.in-16.is) (rw (c.plain.ensures.value, c.low.ensures.value)))

pub returns-in-20 : goal.returns-in-20
unfolding action_of known known_in table operate
returns-in-20 c = rw c.narrow-in-20.ensures (acts CLEAR B (rw c.in-20.is) (rw c.plain-in-20.ensures.value))

pub returns-in-24 : goal.returns-in-24
unfolding action_of known known_in table operate
returns-in-24 c = rw c.narrow-in-24.ensures (acts MOVEN B (rw c.in-24.is) (simp (c.subtract.ensures.value, zero-mod)))

pub returns-in-28 : goal.returns-in-28
unfolding action_of known known_in table operate
returns-in-28 c = rw c.narrow-in-28.ensures (acts MOVEC B (rw c.in-28.is) (rw (c.plain-in-28.ensures.value, c.complement.ensures)))

pub returns-in-40 : goal.returns-in-40
unfolding action_of known known_in table operate
returns-in-40 c = rw c.narrow-in-40.ensures (either_acts OR B refl refl c.in-40.is (rw c.or.ensures))

pub returns-in-48 : goal.returns-in-48
unfolding action_of known known_in table operate
returns-in-48 c = rw c.narrow-in-48.ensures (either_acts ANDNOT B refl refl c.in-48.is (rw c.and_not.ensures))

pub returns-in-56 : goal.returns-in-56
unfolding action_of known known_in table operate
returns-in-56 c = rw c.narrow-in-56.ensures (either_acts XOR B refl refl c.in-56.is (rw c.xor.ensures))

pub returns-in-64 : goal.returns-in-64
unfolding action_of known known_in table operate
returns-in-64 c = rw c.narrow-in-64.ensures (either_acts ADD B refl refl c.in-64.is (rw c.add.ensures.value))

pub returns-in-72 : goal.returns-in-72
unfolding action_of known known_in table operate
returns-in-72 c = rw c.narrow-in-72.ensures (either_acts SUB B refl refl c.in-72.is (rw c.subtract-in-72.ensures.value))

pub returns-in-80 : goal.returns-in-80
unfolding action_of known known_in table operate
returns-in-80 c = rw c.narrow-in-80.ensures (either_acts MULT B refl refl c.in-80.is (rw c.multiply.ensures.value))

pub returns-in-100 : goal.returns-in-100
unfolding action_of known known_in table operate
returns-in-100 c = rw c.in-100.is (record { same = λ f. rw c.compare.ensures.value })

pub returns-in-17 : goal.returns-in-17
unfolding action_of known known_in table operate
returns-in-17 c = rw c.narrow-in-17.ensures (acts MOVE H (rw c.in-17.is) (rw (c.plain-in-17.ensures.value, c.low-in-17.ensures.value)))

pub returns-in-21 : goal.returns-in-21
unfolding action_of known known_in table operate
returns-in-21 c = rw c.narrow-in-21.ensures (acts CLEAR H (rw c.in-21.is) (rw c.plain-in-21.ensures.value))

pub returns-in-25 : goal.returns-in-25
unfolding action_of known known_in table operate
returns-in-25 c = rw c.narrow-in-25.ensures (acts MOVEN H (rw c.in-25.is) (simp (c.subtract-in-25.ensures.value, zero-mod)))

pub returns-in-29 : goal.returns-in-29
unfolding action_of known known_in table operate
returns-in-29 c = rw c.narrow-in-29.ensures (acts MOVEC H (rw c.in-29.is) (rw (c.plain-in-29.ensures.value, c.complement-in-29.ensures)))

pub returns-in-41 : goal.returns-in-41
unfolding action_of known known_in table operate
returns-in-41 c = rw c.narrow-in-41.ensures (either_acts OR H refl refl c.in-41.is (rw c.or-in-41.ensures))

pub returns-in-49 : goal.returns-in-49
unfolding action_of known known_in table operate
returns-in-49 c = rw c.narrow-in-49.ensures (either_acts ANDNOT H refl refl c.in-49.is (rw c.and_not-in-49.ensures))

pub returns-in-57 : goal.returns-in-57
unfolding action_of known known_in table operate
returns-in-57 c = rw c.narrow-in-57.ensures (either_acts XOR H refl refl c.in-57.is (rw c.xor-in-57.ensures))

pub returns-in-65 : goal.returns-in-65
unfolding action_of known known_in table operate
returns-in-65 c = rw c.narrow-in-65.ensures (either_acts ADD H refl refl c.in-65.is (rw c.add-in-65.ensures.value))

pub returns-in-73 : goal.returns-in-73
unfolding action_of known known_in table operate
returns-in-73 c = rw c.narrow-in-73.ensures (either_acts SUB H refl refl c.in-73.is (rw c.subtract-in-73.ensures.value))

pub returns-in-81 : goal.returns-in-81
unfolding action_of known known_in table operate
returns-in-81 c = rw c.narrow-in-81.ensures (either_acts MULT H refl refl c.in-81.is (rw c.multiply-in-81.ensures.value))

pub returns-in-101 : goal.returns-in-101
unfolding action_of known known_in table operate
returns-in-101 c = rw c.in-101.is (record { same = λ f. rw c.compare-in-101.ensures.value })

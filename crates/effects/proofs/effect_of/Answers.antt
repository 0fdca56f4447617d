-- `effect_of` is right: each arm's bytes ask for what its calls give, and of other bytes nothing is
-- said.
use Prim.Native.Nat.{ℕ, ◌<◌}
use mathlib.Core.Path.{◌≡◌, refl}
use native.Mathlib.Nat.{zero-mod, mod-eq_of_lt}
use native.Mathlib.Omega.{arith}
use Rattle.machine.specs.declared.Size.TheVariants.{W}
use Rattle.machine.specs.Code.{OR, ANDNOT, XOR, ADD, SUB, MULT, table, known_in, known}
use Rattle.machine.specs.Integers.{natural, operate}
use Rattle.machine.specs.Commands.{jumps}
use Rattle.actions.specs.Actions.{action_of}
use Rattle.effects.proofs.Asking.{does}
use Rattle.effects.proofs.effect_of.Goals as goal

whole : (x : ℕ) → x < 0x1_0000_0000 → natural 4 x ≡ x
whole x h = mod-eq_of_lt h

pub returns-in-18 : goal.returns-in-18
unfolding action_of known known_in table operate jumps
returns-in-18 c = simp (
  c.gives.ensures,
  c.plain.ensures.value,
  c.in-18.is,
  whole c.args.x (omega arith),
)

pub returns-in-22 : goal.returns-in-22
unfolding action_of known known_in table operate jumps
returns-in-22 c = simp (
  c.gives-in-22.ensures,
  c.plain-in-22.ensures.value,
  c.in-22.is,
)

pub returns-in-26 : goal.returns-in-26
unfolding action_of known known_in table operate jumps
returns-in-26 c = simp (
  c.gives-in-26.ensures,
  c.subtract.ensures.value,
  zero-mod,
  c.in-26.is,
)

pub returns-in-30 : goal.returns-in-30
unfolding action_of known known_in table operate jumps
returns-in-30 c = simp (
  c.gives-in-30.ensures,
  c.plain-in-30.ensures.value,
  c.complement.ensures,
  c.in-30.is,
)

pub returns-in-32 : goal.returns-in-32
unfolding action_of known known_in table operate jumps
returns-in-32 c = simp (
  c.gives-in-32.ensures,
  c.plain-in-32.ensures.value,
  c.in-32.is,
  whole c.args.x (omega arith),
)

pub returns-in-42 : goal.returns-in-42
unfolding action_of known known_in table operate jumps
returns-in-42 c = simp (
  c.gives-in-42.ensures,
  c.or.ensures,
  does OR W refl refl c.in-42.is,
)

pub returns-in-50 : goal.returns-in-50
unfolding action_of known known_in table operate jumps
returns-in-50 c = simp (
  c.gives-in-50.ensures,
  c.and_not.ensures,
  does ANDNOT W refl refl c.in-50.is,
)

pub returns-in-58 : goal.returns-in-58
unfolding action_of known known_in table operate jumps
returns-in-58 c = simp (
  c.gives-in-58.ensures,
  c.xor.ensures,
  does XOR W refl refl c.in-58.is,
)

pub returns-in-66 : goal.returns-in-66
unfolding action_of known known_in table operate jumps
returns-in-66 c = simp (
  c.gives-in-66.ensures,
  c.add.ensures.value,
  does ADD W refl refl c.in-66.is,
)

pub returns-in-74 : goal.returns-in-74
unfolding action_of known known_in table operate jumps
returns-in-74 c = simp (
  c.gives-in-74.ensures,
  c.subtract-in-74.ensures.value,
  does SUB W refl refl c.in-74.is,
)

pub returns-in-82 : goal.returns-in-82
unfolding action_of known known_in table operate jumps
returns-in-82 c = simp (
  c.gives-in-82.ensures,
  c.multiply.ensures.value,
  does MULT W refl refl c.in-82.is,
)

pub returns-in-96 : goal.returns-in-96
unfolding action_of known known_in table operate jumps
returns-in-96 c = simp (
  c.gives-in-96.ensures,
  c.shift.ensures.value,
  c.in-96.is,
  whole c.args.x (omega arith),
  whole c.args.y (omega arith),
)

pub returns-in-97 : goal.returns-in-97
unfolding action_of known known_in table operate jumps
returns-in-97 c = simp (
  c.gives-in-97.ensures,
  c.rotate.ensures.value,
  c.in-97.is,
  whole c.args.x (omega arith),
  whole c.args.y (omega arith),
)

pub returns-in-102 : goal.returns-in-102
unfolding action_of known known_in table operate jumps
returns-in-102 c = simp (
  c.compare.ensures.value,
  c.in-102.is,
)

pub returns-in-112 : goal.returns-in-112
unfolding action_of known known_in table operate jumps
returns-in-112 c = simp (
  c.jumps.ensures,
  c.in-112.is,
)

pub returns-in-113 : goal.returns-in-113
unfolding action_of known known_in table operate jumps
returns-in-113 c = simp (
  c.jumps-in-113.ensures,
  c.flag_z.ensures,
  c.in-113.is,
)

pub returns-in-114 : goal.returns-in-114
unfolding action_of known known_in table operate jumps
returns-in-114 c = simp (
  c.jumps-in-114.ensures,
  c.flag_z-in-114.ensures,
  c.in-114.is,
)

pub returns-in-115 : goal.returns-in-115
unfolding action_of known known_in table operate jumps
returns-in-115 c = simp (
  c.jumps-in-115.ensures,
  c.flag_n.ensures,
  c.flag_z-in-115.ensures,
  c.in-115.is,
)

pub returns-in-116 : goal.returns-in-116
unfolding action_of known known_in table operate jumps
returns-in-116 c = simp (
  c.jumps-in-116.ensures,
  c.flag_n-in-116.ensures,
  c.in-116.is,
)

pub returns-in-117 : goal.returns-in-117
unfolding action_of known known_in table operate jumps
returns-in-117 c = simp (
  c.jumps-in-117.ensures,
  c.flag_n-in-117.ensures,
  c.in-117.is,
)

pub returns-in-118 : goal.returns-in-118
unfolding action_of known known_in table operate jumps
returns-in-118 c = simp (
  c.jumps-in-118.ensures,
  c.flag_n-in-118.ensures,
  c.flag_z-in-118.ensures,
  c.in-118.is,
)

pub returns-in-119 : goal.returns-in-119
unfolding action_of known known_in table operate jumps
returns-in-119 c = simp (
  c.jumps-in-119.ensures,
  c.flag_v.ensures,
  c.in-119.is,
)

pub returns-in-120 : goal.returns-in-120
unfolding action_of known known_in table operate jumps
returns-in-120 c = simp (
  c.jumps-in-120.ensures,
  c.flag_c.ensures,
  c.in-120.is,
)

pub returns-in-121 : goal.returns-in-121
unfolding action_of known known_in table operate jumps
returns-in-121 c = rw c.in-121.is

pub returns-in-122 : goal.returns-in-122
unfolding action_of known known_in table operate jumps
returns-in-122 c = rw c.in-122.is

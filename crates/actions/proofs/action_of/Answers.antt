-- `action_of` is right: each arm's bytes are those of its command's rows, and bytes that no arm
-- names lie in no row.
use Prim.Native.Nat.{ℕ, zero, suc, ◌+◌, ◌%◌, ◌≤◌, ◌<◌}
use mathlib.Core.Path.{◌≡◌, refl}
use lib.Dec.{T}
use mathlib.Core.Logic.{◌⊎◌, inl, inr}
use native.Mathlib.Nat.{zero-mod, mod-eq_of_lt}
use native.Mathlib.Omega.{arith}
use Rattle.std.proofs.Common.{Err}
use Rattle.machine.specs.declared.Size.{Size}
use Rattle.machine.specs.declared.Alarm.TheVariants.{Command}
use Rattle.machine.specs.Words.{size_at}
use Rattle.machine.specs.Code.{MOVE, CLEAR, MOVEN, MOVEC, OR, ANDNOT, XOR, ADD, SUB, MULT, DIV}
use Rattle.machine.specs.Code.{Common, result, CMP, table, known_in, known}
use Rattle.machine.specs.Integers.{natural, operate}
use Rattle.machine.specs.Commands.{jumps}
use Rattle.machine.proofs.CommandBytes.{values, same, NoneOf, between, unknown}
use Rattle.actions.specs.Actions.{Asked, common_action, action_of}
use Rattle.actions.proofs.action_of.Goals as goal

whole : (x : ℕ) → x < 0x1_0000_0000 → natural 4 x ≡ x
whole x h = mod-eq_of_lt h

below_or_not : (a b : ℕ) → (a < b) ⊎ (b ≤ a)
below_or_not zero zero = inr (omega arith)
below_or_not zero (suc b) = inl (omega arith)
below_or_not (suc a) zero = inr (omega arith)
below_or_not (suc a) (suc b) = elim (below_or_not a b) [ inl h ↦ inl (omega arith) | inr h ↦ inr (omega arith) ]

-- 12, with the byte as argument
abbrev refused : ℕ → Asked
refused b = Err (record { alarm = Command; argument = b })

module _ (f x y b : ℕ) (s : Size) (size : s ≡ size_at (b % 4)) where
  -- what a byte asks for, and what a command does
  abbrev act : ℕ → Asked
  act n = action_of n f x y

  abbrev does : Common → Asked
  does k = common_action k f x y

  -- the byte is from lo on, below hi
  abbrev Within : ℕ → ℕ → Type 0
  Within lo hi = (lo ≤ b) × (b < hi)

  -- the bytes from n on are the command k at its three sizes
  abbrev Row : (Size → Common) → ℕ → Type 0
  Row k n = values act 3 n ≡ values (λ b. does (k (size_at (b % 4)))) 3 n

  row : (k : Size → Common) (n : ℕ) → Row k n → Within n (n + 3) → act b ≡ does (k s)
  row k n e p = rw size (same act (λ b. does (k (size_at (b % 4)))) 3 n e b p.0 p.1)

  -- two rows, with a byte between them that b is not
  rows : (k : Size → Common) (n : ℕ) → Row k n → Row k (n + 4) → Within n (n + 7) → (n + 3 ≤ b → n + 4 ≤ b)
      → act b ≡ does (k s)
  rows k n e f p q =
      elim (below_or_not b (n + 3)) [
        | inl h ↦ row k n e (p.0, h)
        | inr h ↦ row k (n + 4) f (q h, omega arith)
      ]

  -- k bytes from lo on are unknown
  gap : (lo k : ℕ) → values refused k lo ≡ values act k lo → (lo ≤ b) × (b < lo + k)
      → refused b ≡ act b
  gap lo k e p = same refused act k lo e b p.0 p.1

-- a byte above all rows is no row alone
none_above : (b : ℕ) → 0x7B ≤ b → NoneOf table Unit b
unfolding table
none_above b h = ((((((((((((((((((((tt, λ e. omega arith), λ e. omega arith), λ e. omega arith), λ e. omega arith), λ e. omega arith), λ e. omega arith), λ e. omega arith), λ e. omega arith), λ e. omega arith), λ e. omega arith), λ e. omega arith), λ e. omega arith), λ e. omega arith), λ e. omega arith), λ e. omega arith), λ e. omega arith), λ e. omega arith), λ e. omega arith), λ e. omega arith), λ e. omega arith)

-- no row of three bytes reaches it
between_above : (b : ℕ) → 0x7B ≤ b → T (between table 0x67 (b + 1))
unfolding table
between_above b h = tt

above : (f x y b : ℕ) → 0x7B ≤ b → refused b ≡ action_of b f x y
unfolding action_of known table
above f x y b h = rw (unknown 0x67 (b + 1) b (omega arith) (omega arith) table (between_above b h) Unit (none_above b h)).1

pub returns-in-0 : goal.returns-in-0
unfolding action_of known known_in table operate jumps
returns-in-0 c = rw c.in-0.is

pub returns-in-1 : goal.returns-in-1
unfolding action_of known known_in table operate jumps
returns-in-1 c = rw c.in-1.is

pub returns-in-2 : goal.returns-in-2
unfolding action_of known known_in table operate jumps
returns-in-2 c = rw c.in-2.is

pub returns-in-3 : goal.returns-in-3
unfolding action_of known known_in table operate jumps
returns-in-3 c = rw c.in-3.is

pub returns-in-5 : goal.returns-in-5
unfolding action_of known known_in table operate jumps
returns-in-5 c = rw c.in-5.is

pub returns-in-112 : goal.returns-in-112
unfolding action_of known known_in table operate jumps
returns-in-112 c = rw c.in-112.is

pub returns-in-121 : goal.returns-in-121
unfolding action_of known known_in table operate jumps
returns-in-121 c = rw c.in-121.is

pub returns-in-122 : goal.returns-in-122
unfolding action_of known known_in table operate jumps
returns-in-122 c = rw c.in-122.is

pub returns-in-32 : goal.returns-in-32
unfolding action_of known known_in table operate jumps
returns-in-32 c = simp (
  c.plain.ensures.value,
  c.in-32.is,
  whole c.args.x (omega arith),
)

pub returns-in-33 : goal.returns-in-33
unfolding action_of known known_in table operate jumps
returns-in-33 c = simp (
  c.plain-in-33.ensures.value,
  c.extend.ensures,
  c.in-33.is,
  whole c.args.x (omega arith),
)

pub returns-in-96 : goal.returns-in-96
unfolding action_of known known_in table operate jumps
returns-in-96 c = simp (
  c.shift.ensures.value,
  c.in-96.is,
  whole c.args.x (omega arith),
  whole c.args.y (omega arith),
)

pub returns-in-97 : goal.returns-in-97
unfolding action_of known known_in table operate jumps
returns-in-97 c = simp (
  c.rotate.ensures.value,
  c.in-97.is,
  whole c.args.x (omega arith),
  whole c.args.y (omega arith),
)

pub returns-in-113 : goal.returns-in-113
unfolding action_of known known_in table operate jumps
returns-in-113 c = simp (c.flag_z.ensures, c.in-113.is)

pub returns-in-114 : goal.returns-in-114
unfolding action_of known known_in table operate jumps
returns-in-114 c = simp (c.flag_z-in-114.ensures, c.in-114.is)

pub returns-in-115 : goal.returns-in-115
unfolding action_of known known_in table operate jumps
returns-in-115 c = simp (c.flag_n.ensures, c.flag_z-in-115.ensures, c.in-115.is)

pub returns-in-116 : goal.returns-in-116
unfolding action_of known known_in table operate jumps
returns-in-116 c = simp (c.flag_n-in-116.ensures, c.in-116.is)

pub returns-in-117 : goal.returns-in-117
unfolding action_of known known_in table operate jumps
returns-in-117 c = simp (c.flag_n-in-117.ensures, c.in-117.is)

pub returns-in-118 : goal.returns-in-118
unfolding action_of known known_in table operate jumps
returns-in-118 c = simp (c.flag_n-in-118.ensures, c.flag_z-in-118.ensures, c.in-118.is)

pub returns-in-119 : goal.returns-in-119
unfolding action_of known known_in table operate jumps
returns-in-119 c = simp (c.flag_v.ensures, c.in-119.is)

pub returns-in-120 : goal.returns-in-120
unfolding action_of known known_in table operate jumps
returns-in-120 c = simp (c.flag_c.ensures, c.in-120.is)

pub returns-in-16-to-18 : goal.returns-in-16-to-18
unfolding action_of known known_in table operate jumps
returns-in-16-to-18 c = simp (
  c.plain-in-16-to-18.ensures.value,
  c.low.ensures.value,
  row c.args.f c.args.x c.args.y c.args.b c.size_at-s.result c.size_at-s.ensures (result MOVE) 0x10 refl (omega arith),
)

pub returns-in-20-to-22 : goal.returns-in-20-to-22
unfolding action_of known known_in table operate jumps
returns-in-20-to-22 c = simp (
  c.plain-in-20-to-22.ensures.value,
  row c.args.f c.args.x c.args.y c.args.b c.size_at-s.result c.size_at-s.ensures (result CLEAR) 0x14 refl (omega arith),
)

pub returns-in-24-to-26 : goal.returns-in-24-to-26
unfolding action_of known known_in table operate jumps
returns-in-24-to-26 c = simp (
  c.subtract.ensures.value,
  zero-mod,
  row c.args.f c.args.x c.args.y c.args.b c.size_at-s.result c.size_at-s.ensures (result MOVEN) 0x18 refl (omega arith),
)

pub returns-in-28-to-30 : goal.returns-in-28-to-30
unfolding action_of known known_in table operate jumps
returns-in-28-to-30 c = simp (
  c.plain-in-28-to-30.ensures.value,
  c.complement.ensures,
  row c.args.f c.args.x c.args.y c.args.b c.size_at-s.result c.size_at-s.ensures (result MOVEC) 0x1C refl (omega arith),
)

pub returns-in-100-to-102 : goal.returns-in-100-to-102
unfolding action_of known known_in table operate jumps
returns-in-100-to-102 c = simp (
  c.compare.ensures.value,
  row c.args.f c.args.x c.args.y c.args.b c.size_at-s.result c.size_at-s.ensures CMP 0x64 refl (omega arith),
)

pub returns-in-88-to-90 : goal.returns-in-88-to-90
unfolding action_of known known_in table operate jumps
returns-in-88-to-90 c = simp (
  c.divide.ensures,
  rows c.args.f c.args.x c.args.y c.args.b c.size_at-s.result c.size_at-s.ensures (result DIV) 0x58 refl refl (grind arith) (λ h. grind arith),
)

pub returns-in-80-to-82 : goal.returns-in-80-to-82
unfolding action_of known known_in table operate jumps
returns-in-80-to-82 c = simp (
  c.multiply.ensures.value,
  rows c.args.f c.args.x c.args.y c.args.b c.size_at-s.result c.size_at-s.ensures (result MULT) 0x50 refl refl (grind arith) (λ h. grind arith),
)

pub returns-in-72-to-74 : goal.returns-in-72-to-74
unfolding action_of known known_in table operate jumps
returns-in-72-to-74 c = simp (
  c.subtract-in-72-to-74.ensures.value,
  rows c.args.f c.args.x c.args.y c.args.b c.size_at-s.result c.size_at-s.ensures (result SUB) 0x48 refl refl (grind arith) (λ h. grind arith),
)

pub returns-in-64-to-66 : goal.returns-in-64-to-66
unfolding action_of known known_in table operate jumps
returns-in-64-to-66 c = simp (
  c.add.ensures.value,
  rows c.args.f c.args.x c.args.y c.args.b c.size_at-s.result c.size_at-s.ensures (result ADD) 0x40 refl refl (grind arith) (λ h. grind arith),
)

pub returns-in-56-to-58 : goal.returns-in-56-to-58
unfolding action_of known known_in table operate jumps
returns-in-56-to-58 c = simp (
  c.xor.ensures,
  rows c.args.f c.args.x c.args.y c.args.b c.size_at-s.result c.size_at-s.ensures (result XOR) 0x38 refl refl (grind arith) (λ h. grind arith),
)

pub returns-in-48-to-50 : goal.returns-in-48-to-50
unfolding action_of known known_in table operate jumps
returns-in-48-to-50 c = simp (
  c.and_not.ensures,
  rows c.args.f c.args.x c.args.y c.args.b c.size_at-s.result c.size_at-s.ensures (result ANDNOT) 0x30 refl refl (grind arith) (λ h. grind arith),
)

pub returns-in-40-to-42 : goal.returns-in-40-to-42
unfolding action_of known known_in table operate jumps
returns-in-40-to-42 c = simp (
  c.or.ensures,
  rows c.args.f c.args.x c.args.y c.args.b c.size_at-s.result c.size_at-s.ensures (result OR) 0x28 refl refl (grind arith) (λ h. grind arith),
)

pub returns-in_default : goal.returns-in_default
unfolding action_of known known_in table operate jumps
returns-in_default c = elim (below_or_not c.args.b 0x05) [
  | inl h ↦ gap c.args.f c.args.x c.args.y c.args.b c.size_at-s.result c.size_at-s.ensures 0x04 1 refl (omega arith)
  | inr h ↦ gap c.args.f c.args.x c.args.y c.args.b c.size_at-s.result c.size_at-s.ensures 0x06 10 refl (omega arith)
]

pub returns-in_default-2 : goal.returns-in_default-2
unfolding action_of known known_in table operate jumps
returns-in_default-2 c = let e : c.args.b ≡ 0x13 = omega arith in rw e

pub returns-in_default-3 : goal.returns-in_default-3
unfolding action_of known known_in table operate jumps
returns-in_default-3 c = let e : c.args.b ≡ 0x17 = omega arith in rw e

pub returns-in_default-4 : goal.returns-in_default-4
unfolding action_of known known_in table operate jumps
returns-in_default-4 c = let e : c.args.b ≡ 0x1B = omega arith in rw e

pub returns-in_default-5 : goal.returns-in_default-5
unfolding action_of known known_in table operate jumps
returns-in_default-5 c = elim (below_or_not c.args.b 0x20) [
  | inl h ↦ gap c.args.f c.args.x c.args.y c.args.b c.size_at-s.result c.size_at-s.ensures 0x1F 1 refl (omega arith)
  | inr h ↦ gap c.args.f c.args.x c.args.y c.args.b c.size_at-s.result c.size_at-s.ensures 0x22 6 refl (omega arith)
]

pub returns-in_default-6 : goal.returns-in_default-6
unfolding action_of known known_in table operate jumps
returns-in_default-6 c = let e : c.args.b ≡ 0x2B = omega arith in rw e

pub returns-in_default-7 : goal.returns-in_default-7
unfolding action_of known known_in table operate jumps
returns-in_default-7 c = let e : c.args.b ≡ 0x2F = omega arith in rw e

pub returns-in_default-8 : goal.returns-in_default-8
unfolding action_of known known_in table operate jumps
returns-in_default-8 c = let e : c.args.b ≡ 0x33 = omega arith in rw e

pub returns-in_default-9 : goal.returns-in_default-9
unfolding action_of known known_in table operate jumps
returns-in_default-9 c = let e : c.args.b ≡ 0x37 = omega arith in rw e

pub returns-in_default-10 : goal.returns-in_default-10
unfolding action_of known known_in table operate jumps
returns-in_default-10 c = let e : c.args.b ≡ 0x3B = omega arith in rw e

pub returns-in_default-11 : goal.returns-in_default-11
unfolding action_of known known_in table operate jumps
returns-in_default-11 c = let e : c.args.b ≡ 0x3F = omega arith in rw e

pub returns-in_default-12 : goal.returns-in_default-12
unfolding action_of known known_in table operate jumps
returns-in_default-12 c = let e : c.args.b ≡ 0x43 = omega arith in rw e

pub returns-in_default-13 : goal.returns-in_default-13
unfolding action_of known known_in table operate jumps
returns-in_default-13 c = let e : c.args.b ≡ 0x47 = omega arith in rw e

pub returns-in_default-14 : goal.returns-in_default-14
unfolding action_of known known_in table operate jumps
returns-in_default-14 c = let e : c.args.b ≡ 0x4B = omega arith in rw e

pub returns-in_default-15 : goal.returns-in_default-15
unfolding action_of known known_in table operate jumps
returns-in_default-15 c = let e : c.args.b ≡ 0x4F = omega arith in rw e

pub returns-in_default-16 : goal.returns-in_default-16
unfolding action_of known known_in table operate jumps
returns-in_default-16 c = let e : c.args.b ≡ 0x53 = omega arith in rw e

pub returns-in_default-17 : goal.returns-in_default-17
unfolding action_of known known_in table operate jumps
returns-in_default-17 c = let e : c.args.b ≡ 0x57 = omega arith in rw e

pub returns-in_default-18 : goal.returns-in_default-18
unfolding action_of known known_in table operate jumps
returns-in_default-18 c = let e : c.args.b ≡ 0x5B = omega arith in rw e

pub returns-in_default-19 : goal.returns-in_default-19
unfolding action_of known known_in table operate jumps
returns-in_default-19 c = elim (below_or_not c.args.b 0x60) [
  | inl h ↦ gap c.args.f c.args.x c.args.y c.args.b c.size_at-s.result c.size_at-s.ensures 0x5F 1 refl (omega arith)
  | inr h ↦ gap c.args.f c.args.x c.args.y c.args.b c.size_at-s.result c.size_at-s.ensures 0x62 2 refl (omega arith)
]

pub returns-in_default-20 : goal.returns-in_default-20
unfolding action_of known known_in table operate jumps
returns-in_default-20 c = elim (below_or_not c.args.b 0x70) [
  | inl h ↦ gap c.args.f c.args.x c.args.y c.args.b c.size_at-s.result c.size_at-s.ensures 0x67 9 refl (omega arith)
  | inr h ↦ above c.args.f c.args.x c.args.y c.args.b (omega arith)
]

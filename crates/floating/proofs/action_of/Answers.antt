-- `action_of` is right: each arm's bytes are those of its command's rows, and bytes that no arm
-- names lie in no row.
use Prim.Native.Nat.{ℕ, zero, suc, ◌+◌, ◌≤◌, ◌<◌}
use mathlib.Core.Path.{◌≡◌, refl}
use mathlib.Core.Logic.{◌⊎◌, inl, inr}
use native.Mathlib.Omega.{arith}
use Rattle.machine.specs.declared.Alarm.TheVariants.{Command}
use Rattle.machine.specs.declared.Kind.{Kind}
use Rattle.machine.specs.declared.Arithmetic.TheVariants.{Add, Sub, Mult, Div}
use Rattle.machine.specs.Floats.{moved_float}
use Rattle.machine.specs.FloatCode.{FloatCommand, gives, MOVE, CMP, float_table, known_float_in, known_float}
use Rattle.machine.proofs.CommandBytes.{values, same}
use Rattle.floats.proofs.Valued.{number_of_lem, combined_result}
use Rattle.std.specs.Prelude.{Result, Ok, Err}
use Rattle.machine.specs.declared.Fault.{Fault}
use Rattle.floating.specs.declared.Action.{Action}
use Rattle.floating.specs.Answers.{command_action, float_action}
use Rattle.floating.proofs.action_of.Goals as goal

below_or_not : (a b : ℕ) → (a < b) ⊎ (b ≤ a)
below_or_not zero zero = inr (omega arith)
below_or_not zero (suc b) = inl (omega arith)
below_or_not (suc a) zero = inr (omega arith)
below_or_not (suc a) (suc b) = elim (below_or_not a b) [ inl h ↦ inl (omega arith) | inr h ↦ inr (omega arith) ]

module _ (kind : Kind) (x y b : ℕ) where
  -- what a byte asks for, and what a command does
  abbrev act : ℕ → Result Action Fault
  act n = float_action n kind x y

  abbrev does : FloatCommand → Result Action Fault
  does k = Ok (command_action k kind x y)

  -- the alarm of an unknown byte
  abbrev unknown : ℕ → Result Action Fault
  unknown n = Err (record { alarm = Command; argument = n })

  -- the byte is from lo on, below hi
  abbrev Within : ℕ → ℕ → Type 0
  Within lo hi = (lo ≤ b) × (b < hi)

  -- the bytes from n on are the command k of both kinds
  abbrev Row : FloatCommand → ℕ → Type 0
  Row k n = values act 2 n ≡ values (λ b. does k) 2 n

  row : (k : FloatCommand) (n : ℕ) → Row k n → Within n (n + 2) → act b ≡ does k
  row k n e p = same act (λ b. does k) 2 n e b p.0 p.1

  -- two rows, with two bytes between them that b is not
  rows : (k : FloatCommand) (n : ℕ) → Row k n → Row k (n + 4) → Within n (n + 6) → (n + 2 ≤ b → n + 4 ≤ b)
      → act b ≡ does k
  rows k n e f p q =
      elim (below_or_not b (n + 2)) [
        | inl h ↦ row k n e (p.0, h)
        | inr h ↦ same act (λ b. does k) 2 (n + 4) f b (q h) (omega arith)
      ]

  -- k bytes from lo on are unknown
  gap : (lo k : ℕ) → values unknown k lo ≡ values act k lo → Within lo (lo + k) → unknown b ≡ act b
  gap lo k e p = same unknown act k lo e b p.0 p.1

pub returns-in-160-to-161 : goal.returns-in-160-to-161
unfolding float_action known_float known_float_in float_table moved_float
returns-in-160-to-161 c = simp (
  c.moved.ensures,
  c.value-p.ensures,
  number_of_lem,
  row c.args.kind c.args.x c.args.y c.args.b MOVE 0xA0 refl (omega arith),
)

pub returns-in-164-to-165 : goal.returns-in-164-to-165
unfolding float_action known_float known_float_in float_table
returns-in-164-to-165 c = simp (
  c.compare.ensures,
  c.value-p.ensures,
  c.value-q.ensures,
  number_of_lem,
  row c.args.kind c.args.x c.args.y c.args.b CMP 0xA4 refl (omega arith),
)

pub returns-in-152-to-153 : goal.returns-in-152-to-153
unfolding float_action known_float known_float_in float_table
returns-in-152-to-153 c = simp (
  c.arithmetic.ensures,
  c.value-p.ensures,
  c.value-q.ensures,
  combined_result,
  rows c.args.kind c.args.x c.args.y c.args.b (gives Div) 0x98 refl refl (omega arith) (λ h. omega arith),
)

pub returns-in-144-to-145 : goal.returns-in-144-to-145
unfolding float_action known_float known_float_in float_table
returns-in-144-to-145 c = simp (
  c.arithmetic-in-144-to-145.ensures,
  c.value-p.ensures,
  c.value-q.ensures,
  combined_result,
  rows c.args.kind c.args.x c.args.y c.args.b (gives Mult) 0x90 refl refl (grind arith) (λ h. grind arith),
)

pub returns-in-136-to-137 : goal.returns-in-136-to-137
unfolding float_action known_float known_float_in float_table
returns-in-136-to-137 c = simp (
  c.arithmetic-in-136-to-137.ensures,
  c.value-p.ensures,
  c.value-q.ensures,
  combined_result,
  rows c.args.kind c.args.x c.args.y c.args.b (gives Sub) 0x88 refl refl (grind arith) (λ h. grind arith),
)

pub returns-in-128-to-129 : goal.returns-in-128-to-129
unfolding float_action known_float known_float_in float_table
returns-in-128-to-129 c = simp (
  c.arithmetic-in-128-to-129.ensures,
  c.value-p.ensures,
  c.value-q.ensures,
  combined_result,
  rows c.args.kind c.args.x c.args.y c.args.b (gives Add) 0x80 refl refl (grind arith) (λ h. grind arith),
)

pub returns-in_default-2 : goal.returns-in_default-2
unfolding float_action known_float known_float_in float_table
returns-in_default-2 c = gap c.args.kind c.args.x c.args.y c.args.b 0x82 2 refl (omega arith)

pub returns-in_default-3 : goal.returns-in_default-3
unfolding float_action known_float known_float_in float_table
returns-in_default-3 c = gap c.args.kind c.args.x c.args.y c.args.b 0x86 2 refl (omega arith)

pub returns-in_default-4 : goal.returns-in_default-4
unfolding float_action known_float known_float_in float_table
returns-in_default-4 c = gap c.args.kind c.args.x c.args.y c.args.b 0x8a 2 refl (omega arith)

pub returns-in_default-5 : goal.returns-in_default-5
unfolding float_action known_float known_float_in float_table
returns-in_default-5 c = gap c.args.kind c.args.x c.args.y c.args.b 0x8e 2 refl (omega arith)

pub returns-in_default-6 : goal.returns-in_default-6
unfolding float_action known_float known_float_in float_table
returns-in_default-6 c = gap c.args.kind c.args.x c.args.y c.args.b 0x92 2 refl (omega arith)

pub returns-in_default-7 : goal.returns-in_default-7
unfolding float_action known_float known_float_in float_table
returns-in_default-7 c = gap c.args.kind c.args.x c.args.y c.args.b 0x96 2 refl (omega arith)

pub returns-in_default-8 : goal.returns-in_default-8
unfolding float_action known_float known_float_in float_table
returns-in_default-8 c = gap c.args.kind c.args.x c.args.y c.args.b 0x9a 2 refl (omega arith)

pub returns-in_default-9 : goal.returns-in_default-9
unfolding float_action known_float known_float_in float_table
returns-in_default-9 c = gap c.args.kind c.args.x c.args.y c.args.b 0x9e 2 refl (omega arith)

pub returns-in_default-10 : goal.returns-in_default-10
unfolding float_action known_float known_float_in float_table
returns-in_default-10 c = gap c.args.kind c.args.x c.args.y c.args.b 0xa2 2 refl (omega arith)

pub returns-in_default-11 : goal.returns-in_default-11
unfolding float_action known_float known_float_in float_table
returns-in_default-11 c = gap c.args.kind c.args.x c.args.y c.args.b 0xA6 0x5A refl (omega arith)

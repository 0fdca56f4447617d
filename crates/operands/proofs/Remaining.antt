-- Operands from some place on: each rule that is left takes one operand, and the operands that are
-- left give what all of them give.
use Prim.Native.Nat.{ℕ, zero, suc, ◌+◌, ◌/◌, ◌<◌, ◌≤◌}
use mathlib.Core.Path.{◌≡◌, refl, sym, ◌∙◌}
use native.Mathlib.Omega.{arith}
use native.Mathlib.Numerals.{add-one}
use Rattle.machine.specs.declared.Alarm.{Alarm}
use Rattle.machine.specs.declared.Size.{Size}
use Rattle.machine.specs.declared.Role.{Role}
use Rattle.machine.specs.declared.Target.TheVariants.{Nowhere}
use Rattle.machine.specs.Words.{length_of}
use Rattle.machine.specs.State.{Registers}
use Rattle.machine.specs.Alarms.{OrAlarm, got, alarm, ◌>>=◌}
use Rattle.machine.specs.Map.{View}
use Rattle.machine.specs.Operands.{Operand, operand_at, Taken, taken_by, Operands, with_taken, operands_from}
use Rattle.machine.specs.Operands.{operands_of}
use Rattle.rules.specs.Rules.{count_in, size_in, role_in, rules_from, rules_in}

-- from operand `place` of so many on, after those that gave o, the operands that are left give what
-- all of them give
pub record Left (v : View) (place count rules : ℕ) (o : Operands) (whole : OrAlarm Operands) : Type 0 where
  pub left : ℕ
  pub near : place + left ≡ count + 1
  pub same : operands_from v place (rules_from left rules) o ≡ whole

pub all_left : (v : View) (rules : ℕ) (r : Registers)
    → Left v 1 (count_in rules) rules (record { first = 0; second = 0; target = Nowhere; registers = r })
    (operands_of v (rules_in rules) r)
all_left v rules r = record { left = count_in rules; near = omega arith; same = refl }

module _ (v : View) (place count rules : ℕ) (o : Operands) (whole : OrAlarm Operands)
    (l : Left v place count rules o whole) where
  pub none_left : count < place → got o ≡ whole
  unfolding operands_from rules_from
  none_left h = let e : l.left ≡ 0 = omega (arith, l.near) in rw e at l.same

  module _ (more : place ≤ count) (size : Size) (of_size : size ≡ size_in rules) (role : Role)
      (of-role : role ≡ role_in rules) where
    -- what follows the operand p, by k rules
    after : ℕ → Operand → OrAlarm Operands
    after k p =
        taken_by v place (length_of size) p role
        >>= (λ t. operands_from v (suc place) (rules_from k (rules / 16)) (with_taken place o t p.registers))

    by_one : (k : ℕ) → operands_from v place (rules_from (suc k) rules) o
        ≡ operand_at v place (length_of size) o.registers >>= after k
    unfolding operands_from rules_from after
    by_one k = rw (← of_size, ← of-role)

    -- the operand at that place gives an alarm
    pub lost : (n : Alarm) (x : ℕ) → alarm n x ≡ operand_at v place (length_of size) o.registers → alarm n x ≡ whole
    lost n x found = go l.left l.near l.same
      where
        go : (k : ℕ) → place + k ≡ count + 1 → operands_from v place (rules_from k rules) o ≡ whole → alarm n x ≡ whole
        go zero q s = absurd (omega arith)
        go (suc k) q s = rw (← found) at (sym (by_one k) ∙ s)

    module _ (p : Operand) (found : got p ≡ operand_at v place (length_of size) o.registers) where
      by-found : (k : ℕ) → after k p ≡ operands_from v place (rules_from (suc k) rules) o
      by-found k = sym (rw (← found) at (by_one k))

      -- what its role takes gives an alarm
      pub next_alarm : (n : Alarm) (x : ℕ) → alarm n x ≡ taken_by v place (length_of size) p role → alarm n x ≡ whole
      unfolding after
      next_alarm n x took_it = go l.left l.near l.same
        where
          go : (k : ℕ) → place + k ≡ count + 1 → operands_from v place (rules_from k rules) o ≡ whole → alarm n x ≡ whole
          go zero q s = absurd (omega arith)
          go (suc k) q s = rw (← took_it) at (by-found k ∙ s)

      pub next-left : (t : Taken) → got t ≡ taken_by v place (length_of size) p role
          → Left v (place + 1) count (rules / 16) (with_taken place o t p.registers) whole
      unfolding after
      next-left t took_it = go l.left l.near l.same
        where
          go : (k : ℕ) → place + k ≡ count + 1 → operands_from v place (rules_from k rules) o ≡ whole
              → Left v (place + 1) count (rules / 16) (with_taken place o t p.registers) whole
          go zero q s = absurd (omega arith)
          go (suc k) q s = record {
            left = k;
            near = omega arith;
            same = rw add-one (rw (← took_it) at (by-found k ∙ s));
          }

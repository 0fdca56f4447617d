-- Operands from some place on: each role that is left takes one operand, and the operands that are
-- left give what all of them give.
use Rattle.std.proofs.Common.{◌≡◌, refl, ℕ, suc, ◌+◌, ◌-◌, ◌/◌, ◌<◌, ◌≤◌, ◌∷◌, add-one, arith}
use Rattle.machine.specs.declared.Alarm.{Alarm}
use Rattle.machine.specs.declared.Kind.{Kind}
use Rattle.machine.specs.declared.Role.{Role}
use Rattle.machine.specs.declared.Target.TheVariants.{Nowhere}
use Rattle.machine.specs.State.{Registers}
use Rattle.machine.specs.Alarms.{OrAlarm, got, alarm}
use Rattle.machine.specs.Map.{View}
use Rattle.machine.specs.Operands.{Operand, Taken, Operands, with_taken}
use Rattle.machine.specs.FloatCode.{float_operand_at, float_taken_by, float_operands_from, float_operands_of}
use Rattle.rules.specs.Rules.{count_in, role_in, roles_from, roles_in}

-- from operand `place` of those below `end` on, after those that gave o, the operands that are left
-- give what all of them give
pub record Left (v : View) (kind : Kind) (place end rules : ℕ) (o : Operands) (whole : OrAlarm Operands) : Type 0 where
  pub left : ℕ
  pub near : place + left ≡ end
  pub same : float_operands_from v place kind (roles_from left rules) o ≡ whole

pub all_left : (v : View) (kind : Kind) (rules end : ℕ) (r : Registers) → end ≡ count_in rules + 1
    → Left v kind 1 end rules (record { first = 0; second = 0; target = Nowhere; registers = r })
    (float_operands_of v kind (roles_in rules) r)
all_left v kind rules end r e = record { left = count_in rules; near = omega (arith, e); same = refl }

module _ (v : View) (kind : Kind) (place end rules : ℕ) (o : Operands) (whole : OrAlarm Operands)
    (l : Left v kind place end rules o whole) where
  pub none_left : end ≤ place → got o ≡ whole
  unfolding float_operands_from roles_from
  none_left h = let e : l.left ≡ 0 = omega (arith, l.near) in rw e at l.same

  module _ (more : place < end) (role : Role) (of-role : role ≡ role_in rules) where
    one_more : float_operands_from v place kind (role ∷ roles_from (l.left - 1) (rules / 16)) o ≡ whole
    unfolding roles_from
    one_more = let e : l.left ≡ suc (l.left - 1) = omega (arith, l.near) in rw of-role (rw e at l.same)

    -- the operand alarms
    pub next_unfound : (n : Alarm) (x : ℕ) → alarm n x ≡ float_operand_at v place kind o.registers → alarm n x ≡ whole
    unfolding float_operands_from
    next_unfound n x h = rw (← h) at one_more

    module _ (p : Operand) (found : got p ≡ float_operand_at v place kind o.registers) where
      -- what its role takes from it alarms
      pub next_alarm : (n : Alarm) (x : ℕ) → alarm n x ≡ float_taken_by v place kind p role → alarm n x ≡ whole
      unfolding float_operands_from
      next_alarm n x h = rw (← found, ← h) at one_more

      -- it gives t
      pub next-left : (t : Taken) → got t ≡ float_taken_by v place kind p role
          → Left v kind (place + 1) end (rules / 16) (with_taken place o t p.registers) whole
      unfolding float_operands_from
      next-left t h = record {
        left = l.left - 1;
        near = omega (arith, l.near);
        same = rw add-one (rw (← found, ← h) at one_more);
      }

-- Operands that are surely taken, one after another: after each, the operands that are left give
-- what all of them give.
use Prim.Native.Nat.{ℕ, suc, ◌+◌, ◌-◌, ◌/◌, ◌<◌, ◌≤◌}
use mathlib.Core.Path.{◌≡◌, refl, sym, subst, ◌∙◌}
use mathlib.Core.Bool.{false}
use mathlib.Core.List.{List, ◌∷◌}
use native.Mathlib.Omega.{arith}
use lib.Seq.{set-set, set-get_or}
use Rattle.std.specs.Prelude.{Some}
use Rattle.machine.specs.declared.Map.{Map}
use Rattle.machine.specs.declared.Role.{Role}
use Rattle.machine.specs.declared.Size.{Size}
use Rattle.machine.specs.Words.{Memory, length_of}
use Rattle.machine.specs.State.{Registers}
use Rattle.machine.specs.Map.{view_by}
use Rattle.machine.specs.Operands.{with_taken, operands_of}
use Rattle.machine.specs.Code.{Rule}
use Rattle.rules.specs.Rules.{count_in, size_in, role_in, rules_from, rules_in, addressed_by, AllOf, Unaddressed}
use Rattle.operands.proofs.Remaining.{Left, all_left, none_left, next-left}
use Rattle.sure.specs.declared.Goes.TheVariants as goes
use Rattle.sure.specs.declared.Taken.{Taken}
use Rattle.sure.specs.declared.Operands.{Operands}
use Rattle.sure.specs.Answers.{target_of, Reaches, Gives, with_operand, ReadyOf, OnlyR15}

-- ---- The rules that are left

-- from operand `place` of so many on, P holds of the rules that are left
pub record Rest (P : List Rule → Type 0) (place count rules : ℕ) : Type 0 where
  pub holds : (n : ℕ) → place + n ≡ count + 1 → P (rules_from n rules)

pub rest_all : (P : List Rule → Type 0) (rules count : ℕ) → count ≡ count_in rules → P (rules_in rules) → Rest P 1 count rules
rest_all P rules count e p = record {
  holds = λ n q. subst (λ (k : ℕ). P (rules_from k rules)) (let h : count_in rules ≡ n = omega arith in h) p;
}

module _ (place count rules : ℕ) (more : place ≤ count) where
  -- where there is one more, P holds of it and those behind it
  first : (P : List Rule → Type 0) → Rest P place count rules
      → P (record { size = size_in rules; role = role_in rules } ∷ rules_from (count - place) (rules / 16))
  unfolding rules_from
  first P l = l.holds (suc (count - place)) (omega arith)

  next : (P : List Rule → Type 0) → ((k : Rule) (ks : List Rule) → P (k ∷ ks) → P ks) → Rest P place count rules
      → Rest P (place + 1) count (rules / 16)
  unfolding rules_from
  next P tail l = record { holds = λ n q. tail _ _ (l.holds (suc n) (omega arith)) }

  module _ (size : Size) (l : Rest (AllOf size) place count rules) where
    pub next_size : size ≡ size_in rules
    next_size = (first (AllOf size) l).0

    pub next_sizes : Rest (AllOf size) (place + 1) count (rules / 16)
    next_sizes = next (AllOf size) (λ k ks p. p.1) l

  module _ (l : Rest Unaddressed place count rules) where
    pub next-plain : addressed_by (role_in rules) ≡ false
    next-plain = (first Unaddressed l).0

    pub next_plains : Rest Unaddressed (place + 1) count (rules / 16)
    next_plains = next Unaddressed (λ k ks p. p.1) l

-- ---- The operands that are left

-- R15 alone changes

pub nothing_changed : (r : Registers) → OnlyR15 r r
nothing_changed r = record { r15 = _; same = sym (set-get_or r 15 0) }

pub one_more : {p q r : Registers} → OnlyR15 p q → OnlyR15 q r → OnlyR15 p r
one_more {p} f g = record { r15 = g.r15; same = g.same ∙ rw f.same (set-set p 15 f.r15 g.r15) }

-- before operand `place`, all being of one size, from registers r₀ on: those that are left give what
-- all of them give, and where the last result goes may be written
pub record Midway (size : Size) (s : ℕ) (map : Map) (m : Memory) (rules : ℕ) (r₀ r : Registers)
    (place rest : ℕ) (o : Operands) : Type 0 where
  pub left :
      Left (view_by s map m) place (count_in rules) rest
      (record { first = o.first; second = o.second; target = target_of o.goes; registers = r })
      (operands_of (view_by s map m) (rules_in rules) r₀)
  pub sizes : Rest (AllOf size) place (count_in rules) rest
  pub reaches : Reaches (length_of size) s map m o.goes

pub none-taken : {size : Size} {s : ℕ} {map : Map} {m : Memory} {rules : ℕ} {r : Registers}
    → AllOf size (rules_in rules)
    → Midway size s map m rules r r 1 rules (record { first = 0; second = 0; goes = goes.Nowhere })
none-taken {size} {rules = rules} {r = r} all = record {
  left = all_left _ rules r;
  sizes = rest_all (AllOf size) rules (count_in rules) refl all;
  reaches = tt;
}

module _ {size : Size} {s : ℕ} {map : Map} {m : Memory} {rules : ℕ} {r₀ r : Registers}
    {place rest : ℕ} {o : Operands} (w : Midway size s map m rules r₀ r place rest o) where
  pub one-taken : place ≤ count_in rules → (k : Role) → k ≡ role_in rest → (q : Registers) (t : Taken)
      → Gives (view_by s map m) (length_of size) k r q t.number (target_of t.goes)
      → Reaches (length_of size) s map m t.goes
      → Midway size s map m rules r₀ q (place + 1) (rest / 16) (with_operand o place t)
  unfolding with_taken
  one-taken more k role q t f reached = record {
    left =
        next-left _ place _ rest _ _ w.left more size (next_size place _ rest more size w.sizes) k role
        (record { location = f.location; registers = q }) (sym (f.found place))
        (record { number = t.number; target = target_of t.goes }) (sym (f.same place));
    sizes = next_sizes place _ rest more size w.sizes;
    reaches = reached;
  }

  pub all_taken : count_in rules < place → ReadyOf (view_by s map m) (rules_in rules) r₀ r (Some o)
  all_taken done = none_left _ _ _ _ _ _ w.left done

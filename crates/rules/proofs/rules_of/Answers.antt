-- `rules_of` is right: each number of the table reads as its byte's rules, and a byte past the
-- table is unknown.
use Prim.Native.Nat.{ℕ, ◌≤◌, ◌<◌}
use mathlib.Core.Path.{◌≡◌, refl, ap}
use mathlib.Core.List.{[]}
use native.Mathlib.Omega.{arith}
use lib.ListN.{get_or}
use Rattle.machine.specs.Code.{table, known_in, known}
use Rattle.machine.specs.FloatCode.{float_table, known_float_in, known_float}
use Rattle.rules.specs.Rules.{size_in, rules_from, rules_in, known_rules, numbers_from, float_numbers_from, table_of}
use Rattle.rules.specs.Rules.{size_of}
use Rattle.machine.proofs.CommandBytes.{same}
use Rattle.rules.proofs.rules_of.Goals as goal
use Rattle.rules.proofs.rules_of.Goals.{then-b-lt128, else-b-lt128}

own_rules : (b : ℕ) → b < 0x80 → rules_in (get_or table_of b 0) ≡ known_rules (known b)
unfolding table known_in known float_table known_float_in known_float numbers_from float_numbers_from table_of rules_from
own_rules b h = same (λ k. rules_in (get_or table_of k 0)) (λ k. known_rules (known k)) 0x80 0 refl b (omega arith) h

sizes : (b : ℕ) → b < 0x80 → size_in (get_or table_of b 0) ≡ size_of (known_rules (known b))
unfolding table known_in known float_table known_float_in known_float numbers_from float_numbers_from table_of
sizes b h = same (λ k. size_in (get_or table_of k 0)) (λ k. size_of (known_rules (known k))) 0x80 0 refl b (omega arith) h

past : (b : ℕ) → 0x80 ≤ b → b < 256 → [] ≡ known_rules (known b)
unfolding table known_in known
past b l h = same (λ k. []) (λ k. known_rules (known k)) 0x80 0x80 refl b l h

pub returns-clause-rules : goal.returns-clause-rules
unfolding rules_from
returns-clause-rules c = elim c.if-b-lt128.branch [
  | then-b-lt128 w ↦ rw (w.number-is, c.args.table.now.right) (own_rules _ w.if-b-lt128.true)
  | else-b-lt128 w ↦ rw w.number-is (past _ w.if-b-lt128.false c.requires)
]

pub returns-clause-size : goal.returns-clause-size
returns-clause-size c = elim c.if-b-lt128.branch [
  | then-b-lt128 w ↦ rw (w.number-is, c.args.table.now.right) (sizes _ w.if-b-lt128.true)
  | else-b-lt128 w ↦ rw w.number-is (ap size_of (past _ w.if-b-lt128.false c.requires))
]

-- `float_rules_of` is right: each number of the table from 80h on reads as its byte's kind and roles,
-- and a byte past the table is unknown.
use Prim.Native.Nat.{ℕ, ◌≤◌, ◌<◌}
use mathlib.Core.Path.{◌≡◌, refl, ap}
use mathlib.Core.List.{List}
use native.Mathlib.Omega.{arith}
use lib.ListN.{get_or}
use Rattle.machine.specs.declared.Kind.{Kind}
use Rattle.machine.specs.declared.Role.{Role}
use Rattle.machine.specs.Code.{table, known_in, known}
use Rattle.machine.specs.FloatCode.{float_table, known_float_in, known_float}
use Rattle.rules.specs.Rules.{kind_in, roles_from, roles_in, known_kind, known_roles, numbers_from, float_numbers_from}
use Rattle.rules.specs.Rules.{table_of}
use Rattle.machine.proofs.CommandBytes.{same}
use Rattle.rules.proofs.float_rules_of.Goals as goal
use Rattle.rules.proofs.float_rules_of.Goals.{then-b-lt166, else-b-lt166}

-- what a number of rules says
abbrev read : ℕ → Kind × List Role
read n = (kind_in n, roles_in n)

abbrev meant : ℕ → Kind × List Role
meant b = (known_kind (known_float b), known_roles (known_float b))

own_rules : (b : ℕ) → 0x80 ≤ b → b < 0xA6 → read (get_or table_of b 0) ≡ meant b
unfolding table known_in known float_table known_float_in known_float numbers_from float_numbers_from table_of roles_from
own_rules b l h = same (λ k. read (get_or table_of k 0)) meant 0x26 0x80 refl b l (omega arith)

past : (b : ℕ) → 0xA6 ≤ b → b < 256 → read 0 ≡ meant b
unfolding float_table known_float_in known_float roles_from
past b l h = same (λ k. read 0) meant 0x5A 0xA6 refl b l (omega arith)

told : (p q : Kind × List Role) → p ≡ q → p.0 ≡ q.0
told p q h = ap (λ (r : Kind × List Role). r.0) h

rolled : (p q : Kind × List Role) → p ≡ q → p.1 ≡ q.1
rolled p q h = ap (λ (r : Kind × List Role). r.1) h

pub returns-clause-kind : goal.returns-clause-kind
returns-clause-kind c = elim c.if-b-lt166.branch [
  | then-b-lt166 w ↦
      rw (w.number-is, c.args.table.now.right) (told _ _ (own_rules _ c.requires.0 w.if-b-lt166.true))
  | else-b-lt166 w ↦ rw w.number-is (told _ _ (past _ w.if-b-lt166.false c.requires.1))
]

pub returns-clause-roles : goal.returns-clause-roles
returns-clause-roles c = elim c.if-b-lt166.branch [
  | then-b-lt166 w ↦
      rw (w.number-is, c.args.table.now.right) (rolled _ _ (own_rules _ c.requires.0 w.if-b-lt166.true))
  | else-b-lt166 w ↦ rw w.number-is (rolled _ _ (past _ w.if-b-lt166.false c.requires.1))
]

-- A command whose operands are taken and whose end is known is carried out; one that is left has
-- changed R15 alone, which is put back. The bytes from 10h on are commands of both modes.
use Prim.Native.Nat.{ℕ, ◌%◌, ◌≤◌, ◌<◌}
use mathlib.Core.Path.{◌≡◌, refl, ap, subst, ◌∙◌}
use mathlib.Core.Bool.{Bool, true, false, ◌||◌, false≢true}
use mathlib.Core.List.{List}
use mathlib.Core.Option.{none}
use native.Mathlib.Omega.{arith}
use borrow.Author.Tests.{ne_eqb, leb-true, leb-false}
use lib.Dec.{leb, eqb}
use lib.ListN.{set}
use lib.Seq.{set-set, set-get_or}
use Rattle.std.specs.Option.{is_some}
use Rattle.std.proofs.Common.{Option, Some, None}
use Rattle.machine.specs.declared.Map.{Map}
use Rattle.machine.specs.declared.IntegerResult.{IntegerResult}
use Rattle.machine.specs.declared.Size.{Size}
use Rattle.machine.specs.Words.{pick, Memory, length_of, size_at}
use Rattle.machine.specs.State.{Registers, reg, user_mode, flags_of, with_flags}
use Rattle.machine.specs.Alarms.{got}
use Rattle.machine.specs.declared.Access.TheVariants.{Fetch}
use Rattle.machine.specs.Map.{view_by, read_bytes}
use Rattle.machine.specs.Code.{Rule, table, known_in, known}
use Rattle.machine.specs.Operands.{past, Operands, operands_of}
use Rattle.rules.specs.Rules.{known_rules, forbidden_of}
use Rattle.actions.specs.declared.Action.TheVariants as action
use Rattle.actions.specs.Actions.{action_of}
use Rattle.effects.specs.Effects.{Acts}
use Rattle.machine.proofs.CommandBytes.{same}
use Rattle.results.specs.Ends.{End, command_done, system_called, halted, resumed, alarmed}
use Rattle.commands.specs.Execution.{exec_of, action_end, asked_end}
use Rattle.commands.proofs.Laws.{exec_action}
use Rattle.sure.specs.Answers.{OnlyR15}
use Rattle.quick.specs.Quietly.{Quietly, Ends, Finishes, Carried, CarriesOut}

pub carried : (s : ℕ) (map : Map) (b : ℕ) (ks : List Rule) (r : Registers) (m : Memory) (o : Operands)
    → got o ≡ operands_of (view_by s map m) ks r → OnlyR15 r o.registers → (q : Registers) (n : Memory) (u : Option ℕ)
    → Finishes (asked_end s m (view_by s map m) o.registers o.first o.target
    (action_of b (flags_of s) o.first o.second)) o.registers m q n u → CarriesOut s map b ks r m q n u
carried s map b ks r m o h only q n (Some t) f = record { operands = o; taken = h; same = f }
carried s map b ks r m o h only q n None f =
    (record { r15 = only.r15; same = f.0 ∙ only.same }, f.1)

-- a command on bytes or halfwords that gives a result of its byte's size, or new flags alone
module _ (s : ℕ) (map : Map) (b : ℕ) (ks : List Rule) (r : Registers) (m : Memory) (o : Operands)
    (taken : got o ≡ operands_of (view_by s map m) ks r) (only : OnlyR15 r o.registers) where
  pub gives_carried : (size : Size) (x : IntegerResult) → size ≡ size_at (b % 4)
      → Acts b o.first o.second (action.Give (size_at (b % 4)) x) → (q : Registers) (t : ℕ) (n : Memory)
      → Ends (length_of size) s map m o.registers x o.target q t n → CarriesOut s map b ks r m q n (Some t)
  unfolding action_end
  gives_carried size x own does q t n e =
      carried s map b ks r m o taken only q n (Some t) (rw (← does.same (flags_of s), ← own) e)

  pub flags_carried : (g : ℕ) → Acts b o.first o.second (action.Flags g)
      → CarriesOut s map b ks r m o.registers m (Some (with_flags s g))
  unfolding action_end
  flags_carried g does =
      carried s map b ks r m o taken only o.registers m (Some (with_flags s g)) (rw (← does.same (flags_of s)))

pub put_back : (r q : Registers) (p : ℕ) → OnlyR15 (set r 15 p) q → set q 15 (reg r 15) ≡ r
put_back r q p only =
    rw (only.same, set-set (set r 15 p) 15 only.r15 (reg r 15), set-set r 15 p (reg r 15)) (set-get_or r 15 0)

pub both_modes : (b s : ℕ) → 0x10 ≤ b → forbidden_of b s ≡ false
both_modes b s h = go (user_mode s)
  where
    go : (u : Bool) → pick u (eqb b 0 || eqb b 5) (eqb b 3) ≡ false
    go true =
        let p : eqb b 0 ≡ false = ne_eqb b 0 (λ e. omega (arith, e)) in
        let q : eqb b 5 ≡ false = ne_eqb b 5 (λ e. omega (arith, e)) in
        rw (p, q)
    go false = ne_eqb b 3 (λ e. omega (arith, e))

-- a byte from 80h on is carried out by no quick way: 01's table has none, and a quiet end is no alarm
none_above : (b : ℕ) → 0x80 ≤ b → b < 256 → known b ≡ none
unfolding known known_in table
none_above b l h = same known (λ n. none) 0x80 0x80 refl b l (omega arith)

abbrev EndsQuietly : End → Type 0
EndsQuietly (command_done r t n) = Unit {0}
EndsQuietly (system_called x r n) = ⊥
EndsQuietly (halted r n) = ⊥
EndsQuietly (resumed a n) = ⊥
EndsQuietly (alarmed k x n) = ⊥

unknown_alarms : (s : ℕ) (map : Map) (b : ℕ) (ks : List Rule) (r : Registers) (m : Memory) (e : End) → known b ≡ none
    → Carried s map b ks r m e → EndsQuietly e → ⊥
unfolding action_of action_end
unknown_alarms s map b ks r m e h c quiet = subst EndsQuietly (rw h at c.same) quiet

-- what is carried out ends the command at R15
pub carried_ends : (s : ℕ) (map : Map) (r : Registers) (m : Memory) (b : ℕ)
    → got b ≡ read_bytes (view_by s map m) Fetch 1 (record { 0 = reg r 15 }) → b < 256 → 0x10 ≤ b
    → (ks : List Rule) → ks ≡ known_rules (known b) → (q : Registers) → q ≡ past 1 r → (e : End)
    → Carried s map b ks q m e → EndsQuietly e → e ≡ exec_of s map r m
carried_ends s map r m b fetched l h ks rules q byte e c quiet = go (leb 0x80 b) refl
  where
    go : (t : Bool) → leb 0x80 b ≡ t → e ≡ exec_of s map r m
    go true p = absurd (unknown_alarms s map b ks q m e (none_above b (leb-true 0x80 b p) l) c quiet)
    go false p =
        c.same ∙ exec_action s map r m b fetched (leb-false 0x80 b p) (both_modes b s h) c.operands
        (c.taken ∙ ap (λ (k : List Rule). operands_of (view_by s map m) k q) rules
        ∙ ap (operands_of (view_by s map m) (known_rules (known b))) byte)

-- a command that was not left: it ended so
pub done_ends : (s : ℕ) (map : Map) (r : Registers) (m : Memory) (b : ℕ)
    → got b ≡ read_bytes (view_by s map m) Fetch 1 (record { 0 = reg r 15 }) → b < 256 → 0x10 ≤ b
    → (ks : List Rule) → ks ≡ known_rules (known b) → (q : Registers) → q ≡ past 1 r → (p : Registers) (n : Memory)
    → (u : Option ℕ) → is_some u ≡ true → CarriesOut s map b ks q m p n u → Quietly s map r m p n u
done_ends s map r m b fetched l h ks rules q byte p n (Some t) e c =
    carried_ends s map r m b fetched l h ks rules q byte _ c tt
done_ends s map r m b fetched l h ks rules q byte p n None e c = absurd (false≢true e)

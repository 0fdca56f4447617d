-- The order inside a command: a command whose byte and operands are known ends as its action does.
use Prim.Native.Nat.{ℕ, ◌≤◌, ◌<◌}
use mathlib.Core.Path.{◌≡◌, refl, sym, ◌∙◌}
use mathlib.Core.Bool.{Bool, true, false, false≢true}
use mathlib.Core.List.{List}
use mathlib.Core.Option.{Option, none, some}
use native.Mathlib.Omega.{arith}
use borrow.Author.Tests.{le-leb, lt-leb}
use Rattle.machine.specs.declared.Map.{Map}
use Rattle.machine.specs.declared.Alarm.{Alarm}
use Rattle.machine.specs.declared.Alarm.TheVariants as alarms
use Rattle.machine.specs.declared.Access.TheVariants.{Fetch}
use Rattle.machine.specs.declared.Size.{Size}
use Rattle.machine.specs.declared.IntegerResult.{IntegerResult}
use Rattle.machine.specs.Words.{pick, Memory, length_of}
use Rattle.machine.specs.State.{Registers, reg, user_mode, flags_of}
use Rattle.machine.specs.Alarms.{OrAlarm, got, alarm, ◌>>=◌}
use Rattle.machine.specs.Map.{View, view_by, read_bytes, located, commit}
use Rattle.machine.specs.Code.{Common, result, CMP, PUSHR, POPR, jump, CALL, RET, system_call, HALT, RESUME, Command}
use Rattle.machine.specs.Code.{common, user_only, kernel_only, Rule, Known, known}
use Rattle.machine.specs.Integers.{natural, operate}
use Rattle.machine.specs.Operands.{past, Operands, operands_from, operands_of}
use Rattle.machine.specs.Commands.{Done, stored, common_done, done, known_or12, allowed_in_user_mode, allowed_in_kernel_mode}
use Rattle.machine.specs.Commands.{completion_of, float_command, command_by, user_effect, user_command, kernel_effect, kernel_command}
use Rattle.rules.specs.Rules.{known_rules, forbidden_of}
use Rattle.actions.specs.Actions.{given, common_action, command_action, known_action, action_of}
use Rattle.results.specs.Ends.{End, alarmed, done_end, end_in}
use Rattle.commands.specs.Execution.{user_end, kernel_end, exec_of, action_end, asked_end}
use Rattle.reads.proofs.Reading.{read-virtual}
use Rattle.results.proofs.Ends.{same_status}
use Rattle.commands.proofs.Modes.{forbids, forbids_known, forbids_byte}

-- ---- A command whose byte and operands are known

module _ (s : ℕ) (m : Memory) (v : View) where
  user_done : (t : OrAlarm Done) → user_end s m v (t >>= (λ d. got (done d))) ≡ done_end s m v t
  user_done (got d) = refl
  user_done (alarm n x) = refl

  kernel_done : (t : OrAlarm Done) → kernel_end s m v (t >>= (λ d. got (done d))) ≡ done_end s m v t
  kernel_done (got d) = refl
  kernel_done (alarm n x) = refl

  result_end : (size : Size) (o : Operands) (t : OrAlarm IntegerResult)
      → done_end s m v (t >>= (λ x. got (stored (length_of size) x o.target o.registers))) ≡ asked_end s m v
      o.registers o.first o.target (given size t)
  unfolding action_end
  result_end size o (got x) = refl
  result_end size o (alarm n x) = refl

  common_end : (o : Operands) (c : Common)
      → done_end s m v (common_done c v (flags_of s) o) ≡ asked_end s m v o.registers o.first o.target
      (common_action c (flags_of s) o.first o.second)
  unfolding action_end common_done located commit
  common_end o (result op size) =
      result_end size o (operate op (length_of size) (natural (length_of size) o.first)
      (natural (length_of size) o.second))
  common_end o (CMP size) = refl
  common_end o PUSHR = refl
  common_end o POPR = refl
  common_end o (jump c) = rw same_status
  common_end o CALL = refl
  common_end o RET = refl

  -- the command that the byte b is, in user mode or not
  module _ (r : Registers) (b : ℕ) where
    fetched_end : Bool → Option Known → End
    fetched_end u k = pick u
        (user_end s m v (known_or12 b k
        >>= (λ k. allowed_in_user_mode b k.command
        >>= (λ c. operands_of v k.operands (past 1 r) >>= (λ o. completion_of user_effect c v (flags_of s) o)))))
        (kernel_end s m v (known_or12 b k
        >>= (λ k. allowed_in_kernel_mode b k.command
        >>= (λ c. operands_of v k.operands (past 1 r) >>= (λ o. completion_of kernel_effect c v (flags_of s) o)))))

    forbidden_end : (u : Bool) (c : Command) (ks : List Rule) → forbids u c ≡ true
        → fetched_end u (some (record { command = c; operands = ks })) ≡ alarmed alarms.Mode b m
    unfolding fetched_end known_or12 allowed_in_user_mode allowed_in_kernel_mode
    forbidden_end u (common c) ks h = absurd (false≢true h)
    forbidden_end true (user_only k) ks h = absurd (false≢true h)
    forbidden_end false (user_only k) ks h = refl
    forbidden_end true (kernel_only k) ks h = refl
    forbidden_end false (kernel_only k) ks h = absurd (false≢true h)

    alarm_end : (u : Bool) (c : Command) (ks : List Rule) (n : Alarm) (x : ℕ) → forbids u c ≡ false
        → operands_of v ks (past 1 r) ≡ alarm n x
        → fetched_end u (some (record { command = c; operands = ks })) ≡ alarmed n x m
    unfolding fetched_end known_or12 allowed_in_user_mode allowed_in_kernel_mode
    alarm_end true (common c) ks n x h a = rw a
    alarm_end false (common c) ks n x h a = rw a
    alarm_end true (user_only k) ks n x h a = rw a
    alarm_end false (user_only k) ks n x h a = absurd (false≢true (sym h))
    alarm_end true (kernel_only k) ks n x h a = absurd (false≢true (sym h))
    alarm_end false (kernel_only k) ks n x h a = rw a

    action_end_lem : (u : Bool) (c : Command) (ks : List Rule) (o : Operands) → forbids u c ≡ false
        → operands_of v ks (past 1 r) ≡ got o
        → fetched_end u (some (record { command = c; operands = ks })) ≡ asked_end s m v o.registers o.first
        o.target (command_action c (flags_of s) o.first o.second)
    unfolding fetched_end known_or12 allowed_in_user_mode allowed_in_kernel_mode completion_of action_end user_effect kernel_effect
    action_end_lem true (common c) ks o h a = rw a (user_done (common_done c v (flags_of s) o) ∙ common_end o c)
    action_end_lem false (common c) ks o h a = rw a (kernel_done (common_done c v (flags_of s) o) ∙ common_end o c)
    action_end_lem true (user_only system_call) ks o h a = rw a
    action_end_lem false (user_only k) ks o h a = absurd (false≢true (sym h))
    action_end_lem true (kernel_only k) ks o h a = absurd (false≢true (sym h))
    action_end_lem false (kernel_only HALT) ks o h a = rw a
    action_end_lem false (kernel_only RESUME) ks o h a = rw a

    forbidden_known : (u : Bool) (k : Option Known) → forbids_known u k ≡ true → fetched_end u k ≡ alarmed alarms.Mode b m
    forbidden_known u none h = absurd (false≢true h)
    forbidden_known u (some k) h = forbidden_end u k.command k.operands h

    alarm_known : (u : Bool) (k : Option Known) (n : Alarm) (x : ℕ) → forbids_known u k ≡ false
        → operands_of v (known_rules k) (past 1 r) ≡ alarm n x → fetched_end u k ≡ alarmed n x m
    unfolding operands_from
    alarm_known u none n x h a = cc
    alarm_known u (some k) n x h a = alarm_end u k.command k.operands n x h a

    action_known : (u : Bool) (k : Option Known) (o : Operands) → forbids_known u k ≡ false
        → operands_of v (known_rules k) (past 1 r) ≡ got o
        → fetched_end u k ≡ asked_end s m v o.registers o.first o.target
        (known_action k b (flags_of s) o.first o.second)
    unfolding fetched_end known_or12 action_end
    action_known true none o h a = refl
    action_known false none o h a = refl
    action_known u (some k) o h a = action_end_lem u k.command k.operands o h a

-- ---- The whole command

pick_same : (u : Bool) (e : End) → pick u e e ≡ e
pick_same true e = refl
pick_same false e = refl

module _ (s : ℕ) (map : Map) (r : Registers) (m : Memory) where
  pub exec_unfetched : (n : Alarm) (x : ℕ) → alarm n x ≡ read_bytes (view_by s map m) Fetch 1 (record { 0 = reg r 15 })
      → alarmed n x m ≡ exec_of s map r m
  unfolding exec_of user_command kernel_command command_by
  exec_unfetched n x h = rw (read-virtual, ← h, pick_same)

  -- a byte from 80h on: a floating command
  pub exec_floating : (b : ℕ) → got b ≡ read_bytes (view_by s map m) Fetch 1 (record { 0 = reg r 15 }) → 0x80 ≤ b
      → end_in s map m (λ v. float_command b v (past 1 r)) ≡ exec_of s map r m
  unfolding exec_of user_command kernel_command command_by
  exec_floating b h l =
      rw (
        read-virtual,
        ← h,
        le-leb 0x80 b l,
        user_done s m (view_by s map m) (float_command b (view_by s map m) (past 1 r)),
        kernel_done s m (view_by s map m) (float_command b (view_by s map m) (past 1 r)),
        pick_same,
      )

  module _ (b : ℕ) (h : got b ≡ read_bytes (view_by s map m) Fetch 1 (record { 0 = reg r 15 })) (l : b < 0x80) where
    fetched : exec_of s map r m ≡ fetched_end s m (view_by s map m) r b (user_mode s) (known b)
    unfolding exec_of user_command kernel_command command_by fetched_end
    fetched = rw (read-virtual, ← h, lt-leb 0x80 b l)

    pub exec_forbidden : forbidden_of b s ≡ true → alarmed alarms.Mode b m ≡ exec_of s map r m
    exec_forbidden f =
        sym (fetched ∙ forbidden_known s m (view_by s map m) r b (user_mode s) (known b)
        (forbids_byte (user_mode s) b (omega arith) ∙ f))

    module _ (f : forbidden_of b s ≡ false) where
      pub exec_alarm : (n : Alarm) (x : ℕ) → alarm n x ≡ operands_of (view_by s map m) (known_rules (known b)) (past 1 r)
          → alarmed n x m ≡ exec_of s map r m
      exec_alarm n x a =
          sym (fetched ∙ alarm_known s m (view_by s map m) r b (user_mode s) (known b) n x
          (forbids_byte (user_mode s) b (omega arith) ∙ f) (sym a))

      pub exec_action : (o : Operands) → got o ≡ operands_of (view_by s map m) (known_rules (known b)) (past 1 r)
          → asked_end s m (view_by s map m) o.registers o.first o.target
          (action_of b (flags_of s) o.first o.second) ≡ exec_of s map r m
      unfolding action_of
      exec_action o a =
          sym (fetched ∙ action_known s m (view_by s map m) r b (user_mode s) (known b) o
          (forbids_byte (user_mode s) b (omega arith) ∙ f) (sym a))

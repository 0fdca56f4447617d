-- A step or run that is not refused: what that tells of the desk, and that the desk which an
-- accepted step leaves is accepted or stopped.
use Rattle.std.specs.Prelude.{Ok}
use Prim.Native.Nat.{ℕ, zero, suc, ◌+◌, ◌-◌, ◌*◌, ◌/◌, ◌%◌, ◌^◌, ◌≤◌}
use mathlib.Core.Path.{◌≡◌, refl}
use mathlib.Core.Bool.{Bool, true, false, not, ◌&&◌}
use mathlib.Core.List.{List, ◌∷◌}
use native.Mathlib.Nat.{div-one, pow-suc}
use native.Mathlib.Omega.{arith}
use borrow.Author.Tests.{leb-true, eqb-true, eqb-false, not-true, ne_eqb}
use lib.Dec.{leb, eqb}
use lib.ListN.{length}
use Rattle.machine.specs.declared.RealAddress.{RealAddress}
use Rattle.machine.specs.declared.Mark.{Mark}
use Rattle.machine.specs.declared.Mark.TheVariants.{Running, Stopped}
use Rattle.machine.specs.declared.Desk.{Desk}
use Rattle.machine.specs.declared.Refusal.{Refusal}
use Rattle.machine.specs.Words.{pick, Memory, word_at}
use Rattle.machine.specs.State.{Registers, allowed_length, user_mode, level_of, flags_of, with_flags, valid_status}
use Rattle.machine.specs.State.{valid_user_status, valid_kernel_status, is_pending, without_level, system_block_of}
use Rattle.machine.specs.State.{entry_r15, entry_status, block_fits, is_running}
use Rattle.machine.specs.Alarms.{alarm_number, alarm_cause, OrAlarm, got, alarm}
use Rattle.machine.specs.Map.{View, real_of, view_of, RealWrites, located, commit}
use Rattle.machine.specs.Commands.{Done, Completion, done, of_mode, SystemCall, user_command, KernelEffect, halts}
use Rattle.machine.specs.Commands.{resumes}
use Rattle.machine.specs.Steps.{Outcome, Plan, enters, stop, halt, completed, due, user_written, of_user_command}
use Rattle.machine.specs.Steps.{interrupted, user_plan, enter_if, concluded, user_step, resume, kernel_written}
use Rattle.machine.specs.Steps.{of_kernel_command, kernel_step, one_step}
use Rattle.machine.specs.Calls.{passes1, passes2, passes3, passes4, passes5, first_refused, step_refusal}
use Rattle.machine.specs.Calls.{unless_refused, step_outcome, ran, steps_of}
use Rattle.machine.proofs.Widths.{and_true}

-- ---- Each refusal's test has nothing to refuse

pub record Passes (d : Desk) (n : ℕ) : Type 0 where
  pub length : passes1 n ≡ true
  pub system : passes2 d.system n ≡ true
  pub control : passes3 d.control n ≡ true
  pub map : passes4 d n ≡ true
  pub state : passes5 d ≡ true
  pub mark : is_running d.mark ≡ true

first_passed : (b : Bool) (k : Refusal) (ts : List (Bool × Refusal)) → first_refused ((b, k) ∷ ts) ≡ Ok tt
    → (b ≡ true) × (first_refused ts ≡ Ok tt)
unfolding first_refused
first_passed true k ts e = (refl, e)
first_passed false k ts e = absurd (let z : ◌≡◌ {A = ℕ} 0 1 = cc in omega arith)

pub passes : (d : Desk) (n : ℕ) → step_refusal d n ≡ Ok tt → Passes d n
unfolding step_refusal
passes d n e =
    let first = first_passed _ _ _ e in
    let second = first_passed _ _ _ first.1 in
    let third = first_passed _ _ _ second.1 in
    let fourth = first_passed _ _ _ third.1 in
    let fifth = first_passed _ _ _ fourth.1 in
    let last = first_passed _ _ _ fifth.1 in
    record {
      length = first.0;
      system = second.0;
      control = third.0;
      map = fourth.0;
      state = fifth.0;
      mark = last.0;
    }

pub accepted : (d : Desk) (n : ℕ) → Passes d n → step_refusal d n ≡ Ok tt
unfolding step_refusal first_refused
accepted d n p = simp (p.length, p.system, p.control, p.map, p.state, p.mark)

-- ---- What single tests tell

pub block_inside : (a : RealAddress) (bytes n : ℕ) → block_fits a bytes n ≡ true → a.0 + bytes ≤ n
unfolding block_fits
block_inside a bytes n e = leb-true _ _ (and_true (eqb (a.0 % 4) 0) _ e).1

pub length_whole : (n : ℕ) → allowed_length n ≡ true → n % 512 ≡ 0
unfolding allowed_length
length_whole n e = eqb-true _ _ (and_true _ _ (and_true _ _ e).0).0

pub length_small : (n : ℕ) → allowed_length n ≡ true → n ≤ 16777216
unfolding allowed_length
length_small n e = leb-true _ _ (and_true (eqb (n % 512) 0 && leb 512 n) _ e).1

pub runs : (k : Mark) → is_running k ≡ true → k ≡ Running
runs Running e = refl
runs (Stopped n) e = absurd (let z : ◌≡◌ {A = ℕ} 0 1 = cc in omega arith)

-- ---- What a step does to number 5

both : {a b : Bool} → a ≡ true → b ≡ true → (a && b) ≡ true
both e f = rw (e, f)

flags_valid : (s f : ℕ) → valid_status s ≡ true → valid_status (with_flags s f) ≡ true
unfolding valid_status with_flags
flags_valid s f e =
    let same : (s / 0x10 * 0x10 + f % 0x10) % 0x8000_0000 / 0x100 ≡ s % 0x8000_0000 / 0x100 = omega arith in
    rw same e

kernel_valid : (s : ℕ) → valid_kernel_status s ≡ true → valid_status s ≡ true
unfolding valid_kernel_status
kernel_valid s e = (and_true (not (user_mode s)) _ e).1

user_valid : (s : ℕ) → valid_user_status s ≡ true → valid_status s ≡ true
unfolding valid_user_status
user_valid s e = (and_true (user_mode s) _ e).1

-- another level's bit leaves that of level 0
level_0_stays : (p k : ℕ) → not (is_pending p 0) ≡ true → not (is_pending (without_level p (suc k)) 0) ≡ true
unfolding is_pending without_level
level_0_stays p k e =
    let even : p % 2 ≡ 1 → ⊥ = eqb-false _ _ (rw div-one at (not-true (is_pending p 0) e)) in
    let twice : 2 ^ suc k ≡ 2 ^ k * 2 = pow-suc 2 k in
    rw (div-one, ne_eqb ((p - 2 ^ suc k) % 2) 1 (λ z. even (omega (arith, twice))))

-- ---- What a step leaves

by_pick : {A : Type 0} (P : A → Type 0) (b : Bool) (x y : A) → (b ≡ true → P x) → P y → P (pick b x y)
by_pick P true x y f g = f refl
by_pick P false x y f g = g

-- a running desk that is accepted
abbrev Lasts : ℕ → Outcome → Type 0
Lasts n o = is_running o.desk.mark ≡ true → Passes o.desk n

module _ (d : Desk) (n : ℕ) (p : Passes d n) where
  valid : valid_status d.status ≡ true
  unfolding passes5
  valid = (and_true _ _ p.state).0

  level_0 : not (is_pending d.pending 0) ≡ true
  unfolding passes5
  level_0 = (and_true (valid_status d.status) _ p.state).1

  stop_lasts : (k : ℕ) → Lasts n (stop k d)
  unfolding stop
  stop_lasts k e = absurd (let z : ◌≡◌ {A = ℕ} 0 1 = cc in omega arith)

  halt_lasts : (r : Registers) → Lasts n (halt r d)
  unfolding halt
  halt_lasts r e = absurd (let z : ◌≡◌ {A = ℕ} 0 1 = cc in omega arith)

  go_lasts : (r : Registers) (f : ℕ) (ws : RealWrites) → Lasts n (completed r (with_flags d.status f) ws d)
  unfolding completed passes5
  go_lasts r f ws e = record {
    length = p.length;
    system = p.system;
    control = p.control;
    map = p.map;
    state = both (flags_valid d.status f valid) level_0;
    mark = e;
  }

  enter_lasts : (block : Memory) (i : ℕ) (r : Registers) (x q : ℕ) → not (is_pending q 0) ≡ true
      → Lasts n (concluded d block (enters i r x q))
  unfolding concluded enter_if passes5
  enter_lasts block i r x q free = go (valid_kernel_status (entry_status block i)) refl
    where
      go : (b : Bool) → valid_kernel_status (entry_status block i) ≡ b
          → Lasts n (enter_if b d i r x q (entry_r15 block i) (entry_status block i))
      go true v e = record {
        length = p.length;
        system = p.system;
        control = p.control;
        map = p.map;
        state = both (kernel_valid (entry_status block i) v) free;
        mark = e;
      }
      go false v e = stop_lasts 16 e

  written_lasts : (block : Memory) (c : Done) (t : OrAlarm RealWrites)
      → Lasts n (concluded d block (user_written d.registers d.status d.pending c t))
  unfolding user_written
  written_lasts block c (got ws) = unfold concluded in go_lasts c.registers c.flags ws
  written_lasts block c (alarm k x) = enter_lasts block _ _ _ _ level_0

  command_lasts : (block : Memory) (v : View) (t : OrAlarm (Completion SystemCall))
      → Lasts n (concluded d block (of_user_command d.registers d.status d.pending v t))
  unfolding of_user_command
  command_lasts block v (got (done c)) = written_lasts block c (located v c.writes)
  command_lasts block v (got (of_mode c)) = enter_lasts block _ _ _ _ level_0
  command_lasts block v (alarm k x) = enter_lasts block _ _ _ _ level_0

  interrupt_lasts : (block : Memory) (k : ℕ) (c : Plan) → Lasts n (concluded d block c)
      → Lasts n (concluded d block (interrupted k d.registers d.pending c))
  unfolding interrupted
  interrupt_lasts block zero c h = h
  interrupt_lasts block (suc k) c h =
      enter_lasts block (16 + suc k) d.registers (suc k) (without_level d.pending (suc k))
      (level_0_stays d.pending k level_0)

  kernel_written_lasts : (c : Done) (t : OrAlarm RealWrites) → Lasts n (kernel_written d c t)
  unfolding kernel_written
  kernel_written_lasts c (got ws) = go_lasts c.registers c.flags ws
  kernel_written_lasts c (alarm k x) = stop_lasts (alarm_number k)

module _ (d : Desk) (m : Memory) (p : Passes d (length m)) where
  resume_lasts : (a : RealAddress) → Lasts (length m) (resume d m a)
  unfolding resume passes5
  resume_lasts a =
      by_pick (Lasts (length m)) _ _ _
      (λ t e. let u = and_true _ _ t in let w = and_true _ _ u.0 in record {
        length = p.length;
        system = p.system;
        control = w.0;
        map = w.1;
        state = both (user_valid (word_at m (a.0 + 64)) u.1) (level_0 d (length m) p);
        mark = e;
      })
      (stop_lasts d (length m) p 14)

  kernel_lasts : (v : View) (t : OrAlarm (Completion KernelEffect)) → Lasts (length m) (of_kernel_command d m v t)
  unfolding of_kernel_command
  kernel_lasts v (got (done c)) = kernel_written_lasts d (length m) p c (located v c.writes)
  kernel_lasts v (got (of_mode (halts r))) = halt_lasts d (length m) p r
  kernel_lasts v (got (of_mode (resumes x))) = resume_lasts (real_of x)
  kernel_lasts v (alarm k x) = stop_lasts d (length m) p (alarm_number k)

  user_lasts : (v : View) (block : Memory) → Lasts (length m) (user_step d v block)
  unfolding user_step user_plan
  user_lasts v block =
      let r = d.registers in
      let s = d.status in
      interrupt_lasts d (length m) p block (due 15 d.pending (level_of s)) _
      (command_lasts d (length m) p block v (user_command v r (flags_of s)))

  -- an accepted step leaves a desk that is accepted, or stopped
  pub step_lasts : Lasts (length m) (one_step d m)
  unfolding one_step kernel_step
  step_lasts =
      let v = view_of d m in
      let block = system_block_of d m in
      by_pick (Lasts (length m)) (user_mode d.status) (user_step d v block) (kernel_step d v m)
      (λ t. user_lasts v block) (kernel_lasts v _)

  -- ---- Runs

  pub passed_step : step_outcome d m ≡ one_step d m
  unfolding step_outcome unless_refused
  passed_step = rw (accepted d (length m) p)

  -- one step more
  pub steps_more : (i k : ℕ) → steps_of (suc i) k d m ≡ steps_of i (suc k) (one_step d m).desk
      (commit (one_step d m).writes m)
  unfolding steps_of
  steps_more i k = rw (p.mark, passed_step)

pub steps_stopped : (i k : ℕ) (d : Desk) (m : Memory) → is_running d.mark ≡ false
    → steps_of i k d m ≡ ran (Ok tt) k d m
unfolding steps_of
steps_stopped zero k d m e = refl
steps_stopped (suc i) k d m e = rw e

pub steps_done : (i k : ℕ) (d : Desk) (m : Memory) → i ≡ 0 → steps_of i k d m ≡ ran (Ok tt) k d m
unfolding steps_of
steps_done i k d m e = rw e

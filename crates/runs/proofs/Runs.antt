-- An accepted desk: what the calls of a step rely on; one step of a run that watched addresses may hold, and commands
-- in a row.
use Rattle.std.specs.Prelude.{Some, None, Result, Ok}
use Prim.Native.Nat.{ℕ, zero, suc, ◌+◌, ◌-◌, ◌≤◌, ◌<◌}
use mathlib.Core.Path.{◌≡◌, refl, sym, ap, subst, ◌∙◌}
use mathlib.Core.Bool.{true, false}
use mathlib.Core.List.{List}
use native.Mathlib.Nat.{sub-zero}
use native.Mathlib.Omega.{arith}
use lib.ListN.{length}
use Rattle.machine.specs.declared.Fault.{Fault}
use Rattle.machine.specs.declared.Mark.{Mark}
use Rattle.machine.specs.declared.Mark.TheVariants.{Running}
use Rattle.machine.specs.declared.Desk.{Desk}
use Rattle.machine.specs.declared.StepReply.{StepReply}
use Rattle.machine.specs.declared.StepEvent.TheVariants as step_event
use Rattle.machine.specs.Words.{Memory}
use Rattle.machine.specs.State.{Registers, is_running, without_level, desk_with}
use Rattle.machine.specs.Map.{commit}
use Rattle.machine.specs.Steps.{enters, one_step}
use Rattle.machine.specs.Calls.{StepAnswer, Stepped, step_refusal}
use Rattle.machine.proofs.Accepted.{Passes, passes, block_inside, length_whole, length_small, runs, step_lasts}
use Rattle.breakpoints.specs.Gathered.{among_at}
use Rattle.breakpoints.specs.RunTo.{RanTo, ran_to, hold_of, steps_to}
use Rattle.breakpoints.proofs.Steps.{to_more, to_held, to_stopped, to_done}
use Rattle.lookup.specs.Answers.{Fits}
use Rattle.results.specs.declared.Out.{Out}
use Rattle.results.specs.Ends.{End, command_done, system_called, halted, resumed, alarmed}
use Rattle.commands.specs.Execution.{exec_of}
use Rattle.entry.specs.Replies.{stepped, stepped_to, shown, entered_by, concluded_end, Blocks}
use Rattle.levels.specs.Due.{interrupt_of}
use Rattle.execution.specs.Rows.{followed, in_row, Elsewhere, Passed, Rowed}
use Rattle.execution.proofs.Kept.{Kept, exec_kept}
use Rattle.execution.proofs.Rows.{quiet_ones, passed_fewer}
use Rattle.runs.proofs.Ending.{step_enters, command_step, same_level}
use Rattle.runs.proofs.Holds.{due_first, elsewhere}

-- ---- What the calls of a step rely on

module _ (d : Desk) (m : Memory) (p : Passes d (length m)) where
  pub blocks : Blocks d m
  blocks =
      record {
        system = block_inside d.system 256 (length m) p.system;
        control = block_inside d.control 80 (length m) p.control;
      }

  pub map_fits_lem : Fits d.map m
  map_fits_lem = record {
    inside = block_inside d.map.base _ (length m) p.map;
    small = length_small (length m) p.length;
    whole = length_whole (length m) p.length;
  }

-- ---- A run of n steps, from desk d₀ and memory m₀, that comes to that goal

-- after k steps, with more to make
pub record Midway (addresses : List ℕ) (n k : ℕ) (goal : RanTo) (d₀ : Desk) (m₀ : Memory) (d : Desk)
    (m : Memory) : Type 0 where
  pub same : length m ≡ length m₀
  pub passes : Passes d (length m)
  pub steps : steps_to (among_at addresses) (n - k) k d m ≡ goal
  pub none : k ≡ 0 → shown (one_step d m) m ≡ shown (one_step d₀ m₀) m₀

-- what the only step that was made came to
abbrev pub Only : ℕ → Desk → Memory → StepAnswer → Desk → Memory → Type 0
Only k d₀ m₀ a d m = k ≡ 1 → stepped_to a d m ≡ shown (one_step d₀ m₀) m₀

-- after k steps, more than c; the last was answered by a and may have stopped the desk
pub record After (addresses : List ℕ) (n c k : ℕ) (goal : RanTo) (d₀ : Desk) (m₀ : Memory) (a : StepAnswer)
    (d : Desk) (m : Memory) : Type 0 where
  pub made : c < k
  pub few : k ≤ n
  pub same : length m ≡ length m₀
  pub lasts : is_running d.mark ≡ true → Passes d (length m)
  pub steps : steps_to (among_at addresses) (n - k) k d m ≡ goal
  pub one : Only k d₀ m₀ a d m

pub start : (addresses : List ℕ) (n : ℕ) (d : Desk) (m : Memory) → step_refusal d (length m) ≡ Ok tt
    → Midway addresses n 0 (steps_to (among_at addresses) n 0 d m) d m d m
start addresses n d m e =
    record { same = refl; passes = passes d (length m) e; steps = rw (sub-zero n); none = λ h. refl }

module _ {addresses : List ℕ} {n c k : ℕ} {goal : RanTo} {d₀ : Desk} {m₀ : Memory} {a : StepAnswer} {d : Desk}
    {m : Memory} (t : After addresses n c k goal d₀ m₀ a d m) where
  pub go_on : is_running d.mark ≡ true → Midway addresses n k goal d₀ m₀ d m
  go_on e =
      record {
        same = t.same;
        passes = t.lasts e;
        steps = t.steps;
        none = λ h. absurd (omega (arith, h, t.made));
      }

  pub stopped : is_running d.mark ≡ false → ran_to (Ok None) k d m ≡ goal
  stopped e = sym (to_stopped (among_at addresses) (n - k) k d m e) ∙ t.steps

module _ {addresses : List ℕ} {n k : ℕ} {goal : RanTo} {d₀ : Desk} {m₀ : Memory} {d : Desk} {m : Memory}
    (b : Midway addresses n k goal d₀ m₀ d m) where
  pub finished : n ≤ k → ran_to (Ok None) k d m ≡ goal
  finished h = sym (to_done (among_at addresses) (n - k) k d m (omega arith)) ∙ b.steps

  -- a watched address is reached
  pub held : k < n → hold_of (among_at addresses) k d ≡ Some 0 → ran_to (Ok (Some 0)) k d m ≡ goal
  held left e =
      let more : n - k ≡ suc (n - suc k) = omega arith in
      sym (to_held (among_at addresses) (n - suc k) k d m b.passes.mark 0 e) ∙ rw more at b.steps

  -- one step
  after : (c : ℕ) → c ≤ k → k < n → hold_of (among_at addresses) k d ≡ None → (r : StepReply) (y : Memory)
      → length y ≡ length m → stepped r y ≡ shown (one_step d m) m
      → After addresses n c (k + 1) goal d₀ m₀ r.answer r.desk y
  after c before left free r y long e =
      let more : n - k ≡ suc (n - suc k) = omega arith in
      let one : k + 1 ≡ suc k = omega arith in
      let desk : r.desk ≡ (one_step d m).desk = ap (λ (s : Stepped). s.reply.desk) e in
      let memory : y ≡ commit (one_step d m).writes m = ap (λ (s : Stepped). s.memory) e in
      record {
        made = omega arith;
        few = omega arith;
        same = long ∙ b.same;
        lasts = λ h. rw (desk, long) (step_lasts d m b.passes (rw desk at h));
        steps = rw (desk, memory, one)
            (sym (to_more (among_at addresses) d m b.passes (n - suc k) k free) ∙ rw more at b.steps);
        one = λ h. e ∙ b.none (omega (arith, h));
      }

  -- an interrupt
  pub after-level : k < n → (r : StepReply) (y : Memory) (level : ℕ) → length y ≡ length m
      → level ≡ interrupt_of d.status d.pending → 0 < level
      → stepped r y ≡ entered_by d m (enters (16 + level) d.registers level (without_level d.pending level))
      → After addresses n k (k + 1) goal d₀ m₀ r.answer r.desk y
  after-level left r y level long e h g =
      after k (omega arith) left (due_first addresses d k (rw (← e) h)) r y long (step_enters d m level e h _ g)

-- ---- Commands in a row, each of them a step

-- the desk, running, with those registers and that status
abbrev pub going : Desk → Registers → ℕ → Desk
going d r s = desk_with d r s d.pending Running

-- a running desk with its own
gathered : (d : Desk) → is_running d.mark ≡ true → d ≡ going d d.registers d.status
gathered d e = ap (λ (k : Mark). desk_with d d.registers d.status d.pending k) (runs d.mark e)

-- after c steps, k quiet commands of desk d
pub record Along (addresses : List ℕ) (n c : ℕ) (goal : RanTo) (d₀ : Desk) (m₀ : Memory) (d : Desk) (k : ℕ)
    (q : Registers) (t : ℕ) (y : Memory) : Type 0 where
  pub few : c + k ≤ n
  pub midway : Midway addresses n (c + k) goal d₀ m₀ (going d q t) y
  pub none : interrupt_of t d.pending ≡ 0
  pub one : 0 < k → Only (c + k) d₀ m₀ (Ok step_event.Done) (going d q t) y

module _ {addresses : List ℕ} {n c : ℕ} {goal : RanTo} {d₀ : Desk} {m₀ : Memory} {d : Desk} {k : ℕ} {q : Registers}
    {t : ℕ} {y : Memory} (a : Along addresses n c goal d₀ m₀ d k q t y) where
  -- no more commands
  pub after_quiet : 0 < k → After addresses n c (c + k) goal d₀ m₀ (Ok step_event.Done) (going d q t) y
  after_quiet some = record {
    made = omega arith;
    few = a.few;
    same = a.midway.same;
    lasts = λ h. a.midway.passes;
    steps = a.midway.steps;
    one = a.one some;
  }

  module _ (free : hold_of (among_at addresses) (c + k) (going d q t) ≡ None) where
    -- one more command and its conclusion
    pub after_command : c + k < n → {e : End} → e ≡ exec_of t d.map q y → (r : StepReply) (z : Memory)
        → length z ≡ length y → stepped r z ≡ concluded_end (going d q t) y e
        → After addresses n c (c + k + 1) goal d₀ m₀ r.answer r.desk z
    after_command left e r z long g =
        after a.midway c (omega arith) left free r z long (command_step (going d q t) y a.none e g)

    -- one more, quiet again
    along_one : c + k < n → (w : Registers) (u : ℕ) (z : Memory) → command_done w u z ≡ exec_of t d.map q y
        → Along addresses n c goal d₀ m₀ d (suc k) w u z
    unfolding concluded_end
    along_one left w u z e =
        let kept : Kept t y (command_done w u z) = rw (← e) at (exec_kept t y d.map q) in
        let r : StepReply = record { answer = Ok step_event.Done; desk = going d w u } in
        let more : c + k + 1 ≡ c + suc k = omega arith in
        let next : After addresses n c (c + suc k) goal d₀ m₀ (Ok step_event.Done) (going d w u) z =
        rw more at (after_command left e r z kept.1 refl) in
        record {
          few = next.few;
          midway = go_on next refl;
          none = same_level t u d.pending kept.0 ∙ a.none;
          one = λ h. next.one;
        }

module _ {addresses : List ℕ} {n c : ℕ} {goal : RanTo} {d₀ : Desk} {m₀ : Memory} {d : Desk} {m : Memory}
    (b : Midway addresses n c goal d₀ m₀ d m) (none : interrupt_of d.status d.pending ≡ 0)
    (free : hold_of (among_at addresses) c d ≡ None) where
  -- the run is not held after k commands that ended so
  abbrev Free : ℕ → End → Type 0
  Free k (command_done q t y) = hold_of (among_at addresses) (c + k) (going d q t) ≡ None
  Free k (system_called x r y) = Unit {0}
  Free k (halted r y) = Unit {0}
  Free k (resumed a y) = Unit {0}
  Free k (alarmed a x y) = Unit {0}

  elsewhere_free : (k : ℕ) (e : End) → Elsewhere addresses e → Free k e
  elsewhere_free k (command_done q t y) h = elsewhere addresses (going d q t) (c + k) h
  elsewhere_free k (system_called x r y) h = tt
  elsewhere_free k (halted r y) h = tt
  elsewhere_free k (resumed a y) h = tt
  elsewhere_free k (alarmed a x y) h = tt

  free_after : (k : ℕ) → Passed addresses (k + 1) d.status d.map d.registers m
      → Free k (in_row k d.status d.map d.registers m)
  unfolding in_row
  free_after zero f =
      let all : c + 0 ≡ c = omega arith in
      rw (all, ← gathered d b.passes.mark) free
  free_after (suc k) f =
      elsewhere_free (suc k) (in_row (suc k) d.status d.map d.registers m)
      (f (suc k) (omega arith) (omega arith))

  -- where the last of k commands ended quietly
  abbrev Comes : ℕ → End → Type 0
  Comes k (command_done q t y) = c + k ≤ n → Along addresses n c goal d₀ m₀ d k q t y
  Comes k (system_called x r y) = Unit {0}
  Comes k (halted r y) = Unit {0}
  Comes k (resumed a y) = Unit {0}
  Comes k (alarmed a x y) = Unit {0}

  comes_one : (k : ℕ) (q : Registers) (t : ℕ) (y : Memory) → Free k (command_done q t y) → Comes k (command_done q t y)
      → (e : End) → e ≡ exec_of t d.map q y → Comes (suc k) e
  comes_one k q t y g f (command_done w u z) e = λ h. along_one (f (omega arith)) g (omega arith) w u z e
  comes_one k q t y g f (system_called x r z) e = tt
  comes_one k q t y g f (halted r z) e = tt
  comes_one k q t y g f (resumed a z) e = tt
  comes_one k q t y g f (alarmed a x z) e = tt

  comes_next : (k : ℕ) (e : End) → Free k e → Comes k e → Comes (suc k) (followed d.map e)
  comes_next k (command_done q t y) g f = comes_one k q t y g f (exec_of t d.map q y) refl
  comes_next k (system_called x r y) g f = tt
  comes_next k (halted r y) g f = tt
  comes_next k (resumed a y) g f = tt
  comes_next k (alarmed a x y) g f = tt

  comes : (k : ℕ) → Passed addresses k d.status d.map d.registers m
      → Comes k (in_row k d.status d.map d.registers m)
  unfolding in_row
  comes zero f = λ h.
      let all : c + 0 ≡ c = omega arith in
      let whole : d ≡ going d d.registers d.status = gathered d b.passes.mark in
      record { few = h; midway = rw (all, ← whole) b; none = none; one = λ z. absurd (omega (arith, z)) }
  comes (suc k) f =
      let one : suc k ≡ k + 1 = omega arith in
      let passed : Passed addresses (k + 1) d.status d.map d.registers m = rw one at f in
      comes_next k (in_row k d.status d.map d.registers m) (free_after k passed)
      (comes k (passed_fewer addresses d.status d.map d.registers m k passed))

  pub along : c < n → (q : Registers) (t k : ℕ) (w : Registers) (y : Memory) (o : Result Out Fault)
      → Rowed addresses (n - c) d.status d.map d.registers m q t k w y o
      → Along addresses n c goal d₀ m₀ d k q t y
  along left q t k w y o e =
      let p = quiet_ones addresses (n - c) d.status d.map d.registers m q t k w y o e in
      let f : Comes k (command_done q t y) = rw (← p.quiet) at (comes k p.passed) in
      f (omega (arith, p.few))

  -- the command after the quiet ones is not held
  pub next_free : (q : Registers) (t k : ℕ) (y : Memory)
      → command_done q t y ≡ in_row k d.status d.map d.registers m
      → Passed addresses (k + 1) d.status d.map d.registers m
      → hold_of (among_at addresses) (c + k) (going d q t) ≡ None
  next_free q t k y e f = subst (Free k) (sym e) (free_after k f)

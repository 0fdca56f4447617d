-- Request F-3 of document 02, what it says of a run with breakpoints, and what follows, for every list, every
-- number of steps, every desk and memory. Statements only.
use Rattle.std.specs.Prelude.{ℕ, ◌+◌, ◌-◌, ◌<◌, ◌≡◌, ◌≢◌, true, false, List, length, get_or, Some, None, Ok, Err}
use Rattle.machine.specs.declared.Desk.{Desk}
use Rattle.machine.specs.declared.Refusal.{Refusal}
use Rattle.machine.specs.Words.{Memory}
use Rattle.machine.specs.State.{reg, user_mode, flags_of, without_level}
use Rattle.machine.specs.Map.{View}
use Rattle.machine.specs.Commands.{user_command}
use Rattle.machine.specs.Steps.{enters, of_user_command, user_plan}
use Rattle.machine.specs.Calls.{Answer, Ran, ran, step_refusal, run_of}
use Rattle.breakpoints.specs.declared.Breakpoint.{Breakpoint}
use Rattle.breakpoints.specs.declared.RunToRefusal.{RunToRefusal}
use Rattle.breakpoints.specs.declared.RunToRefusal.TheVariants.{Run, Breakpoints}
use Rattle.breakpoints.specs.Breakpoints.{unarmed, holds_at, few}
use Rattle.breakpoints.specs.RunTo.{RunToAnswer, ran_to, RanTo, interrupt_due, run_to_of}

-- what a run without breakpoints hands back, in the terms of one with them
abbrev pub unheld_answer : Answer → RunToAnswer
unheld_answer (Ok u) = Ok None
unheld_answer (Err k) = Err (Run k)

abbrev pub unheld : Ran → RanTo
unheld r = ran_to (unheld_answer r.reply.answer) r.reply.steps r.reply.desk r.memory

-- a run after which k steps more are counted
abbrev pub after : ℕ → Ran → Ran
after k r = ran r.reply.answer (k + r.reply.steps) r.reply.desk r.memory

abbrev pub after_to : ℕ → RanTo → RanTo
after_to k r = ran_to r.reply.answer (k + r.reply.steps) r.reply.desk r.memory

-- no breakpoint of the list is armed
abbrev pub AllOff : List Breakpoint → Type 0
AllOff ps = (i : ℕ) → i < length ps → (get_or ps i unarmed).armed ≡ false

-- "an armed point equals R15 .. the first such point in the list": the one in place i
pub record FirstAt (r15 : ℕ) (ps : List Breakpoint) (i : ℕ) : Type 0 where
  pub within : i < length ps
  pub armed : (get_or ps i unarmed).armed ≡ true
  pub equal : (get_or ps i unarmed).r15.0 ≡ r15
  pub before : (j : ℕ) → j < i → holds_at r15 (get_or ps j unarmed) ≡ false

-- ---- Interrupts

-- what "an interrupt is due" means for the next step of a desk, with any view of its memory
pub record Due (d : Desk) : Type 0 where
  -- it is: the step enters a level
  pub entered : interrupt_due d ≡ true → (v : View)
      → (level : ℕ) × ((0 < level) × (user_mode d.status ≡ true)
      × (user_plan d.registers d.status d.pending v
      ≡ enters (16 + level) d.registers level (without_level d.pending level)))
  -- it is not: the step is the command at R15, in kernel mode too (Steps: kernel_step)
  pub command : interrupt_due d ≡ false → user_mode d.status ≡ true → (v : View)
      → user_plan d.registers d.status d.pending v
      ≡ of_user_command d.registers d.status d.pending v (user_command v d.registers (flags_of d.status))

-- ---- Runs

-- what is so of a run of at most n steps that was held by the breakpoint in place i and handed back r
pub record HeldBy (ps : List Breakpoint) (n : ℕ) (d : Desk) (m : Memory) (i : ℕ) (r : RanTo) : Type 0 where
  -- it has made "at least one" step, and fewer than were asked for
  pub some : 0 < r.reply.steps
  pub fewer : r.reply.steps < n
  -- a further step is not refused, and is the command at R15, where the breakpoint is
  pub accepted : step_refusal r.reply.desk (length r.memory) ≡ Ok tt
  pub none-due : interrupt_due r.reply.desk ≡ false
  pub point : FirstAt (reg r.reply.desk.registers 15) ps i
  -- gone on with, it is the run that was never held; so too with any breakpoints, once these do not hold it
  pub gone_on : after r.reply.steps (run_of (n - r.reply.steps) r.reply.desk r.memory) ≡ run_of n d m
  pub gone_on_to : (qs : List Breakpoint)
      → (run_to_of qs (n - r.reply.steps) r.reply.desk r.memory).reply.answer ≡ Ok None
      → after_to r.reply.steps (run_to_of qs (n - r.reply.steps) r.reply.desk r.memory) ≡ unheld (run_of n d m)

pub record Holding (ps : List Breakpoint) (n : ℕ) (d : Desk) (m : Memory) : Type 0 where
  -- 1 to 5 and 7 as of a run; "20, more than 64 points, tried after 7"; and in no other case
  pub refused : (k : Refusal) → step_refusal d (length m) ≡ Err k
      → run_to_of ps n d m ≡ ran_to (Err (Run k)) 0 d m
  pub too_many : step_refusal d (length m) ≡ Ok tt → few ps ≡ false
      → run_to_of ps n d m ≡ ran_to (Err Breakpoints) 0 d m
  pub accepted : step_refusal d (length m) ≡ Ok tt → few ps ≡ true
      → (q : RunToRefusal) → (run_to_of ps n d m).reply.answer ≢ Err q
  -- "With at most 64 points, all off, a run answers as before": answer, steps, desk and memory
  pub all_off : few ps ≡ true → AllOff ps → run_to_of ps n d m ≡ unheld (run_of n d m)
  -- so does one that is not held
  pub not_held : (run_to_of ps n d m).reply.answer ≡ Ok None → run_to_of ps n d m ≡ unheld (run_of n d m)
  -- held or not, it is the run without breakpoints of as many steps as it counts
  pub steps : run_of (run_to_of ps n d m).reply.steps d m
      ≡ ran (step_refusal d (length m)) (run_to_of ps n d m).reply.steps (run_to_of ps n d m).reply.desk
      (run_to_of ps n d m).memory
  -- "Before every step but the first .., if no interrupt is due and an armed point equals R15, the run ends": so
  -- where it went on, no breakpoint of the list was armed and equal to R15
  pub passed_none : (k : ℕ) → 0 < k → k < (run_to_of ps n d m).reply.steps
      → interrupt_due (run_of k d m).reply.desk ≡ false → (i : ℕ) → i < length ps
      → holds_at (reg (run_of k d m).reply.desk.registers 15) (get_or ps i unarmed) ≡ false
  pub held : (i : ℕ) → (run_to_of ps n d m).reply.answer ≡ Ok (Some i) → HeldBy ps n d m i (run_to_of ps n d m)

pub record HoldingPoints : Type 0 where
  pub interrupts : (d : Desk) → Due d
  pub runs : (ps : List Breakpoint) (n : ℕ) (d : Desk) (m : Memory) → Holding ps n d m

-- Request F-3 of document 02, a run with breakpoints: "Before every step but the first of a run, if no
-- interrupt is due and an armed point equals R15, the run ends with its step count and the place, from 0, of
-- the first such point in the list. The list isn't altered. With at most 64 points, all off, a run answers
-- as before; demand 2's run may now end at a hold too. Refused: 20, more than 64 points, tried after 7."
use Rattle.std.specs.Prelude.{ℕ, zero, suc, Bool, ◌&&◌, List, ltb, length, Option, Some, None, Result, Ok, Err}
use Rattle.machine.specs.declared.Desk.{Desk}
use Rattle.machine.specs.Words.{pick, Memory}
use Rattle.machine.specs.State.{reg, user_mode, level_of, is_running}
use Rattle.machine.specs.Map.{commit}
use Rattle.machine.specs.Steps.{due}
use Rattle.machine.specs.Calls.{Answer, refusal_number, step_refusal, step_outcome}
use Rattle.breakpoints.specs.declared.Breakpoint.{Breakpoint}
use Rattle.breakpoints.specs.declared.RunToRefusal.{RunToRefusal}
use Rattle.breakpoints.specs.declared.RunToRefusal.TheVariants.{Run, Breakpoints}
use Rattle.breakpoints.specs.declared.RunToReply.{RunToReply}
use Rattle.breakpoints.specs.Breakpoints.{first_armed, few}

-- what a run came to: Ok None where it ended as a run ends, Ok (Some place) where the breakpoint in that place held it
abbrev pub RunToAnswer : Type 0
RunToAnswer = Result (Option ℕ) RunToRefusal

-- ---- Numbers

abbrev pub run_to_refusal_number : RunToRefusal → ℕ
-- 1 to 5 and 7, as of a run
run_to_refusal_number (Run k) = refusal_number k
-- "more than 64 points"
run_to_refusal_number Breakpoints = 20

-- the paper's number of an answer: a refusal's; the place of the breakpoint that held the run; 0 for a run
-- that ended otherwise, for which the paper has none. The case tells which it is: 0 is also the first place, and 1 to
-- 5, 7 and 20 are places too
abbrev pub run_to_answer_number : RunToAnswer → ℕ
run_to_answer_number (Err k) = run_to_refusal_number k
run_to_answer_number (Ok None) = 0
run_to_answer_number (Ok (Some place)) = place

-- ---- What a run hands back, with the memory that it leaves

pub record RanTo : Type 0 where
  pub reply : RunToReply
  pub memory : Memory

abbrev pub ran_to : RunToAnswer → ℕ → Desk → Memory → RanTo
ran_to a k d m = record { reply = record { answer = a; steps = k; desk = d }; memory = m }

-- ---- A hold: a breakpoint is hit

-- "no interrupt is due": one is where "In user mode the highest pending level above the status level is entered"
-- (document 01, "One step"); in kernel mode pending levels wait
unfoldable pub interrupt_due : Desk → Bool
interrupt_due d = user_mode d.status && ltb 0 (due 15 d.pending (level_of d.status))

-- the breakpoint that holds the desk before its next step, after k steps of the run; `at` finds the one at an R15.
-- "Before every step but the first of a run, if no interrupt is due": so a run that begins on a breakpoint makes that
-- step
unfoldable pub hold_of : (ℕ → Option ℕ) → ℕ → Desk → Option ℕ
hold_of at zero d = None
hold_of at (suc k) d = pick (interrupt_due d) None (at (reg d.registers 15))

-- "the run ends with its step count and the place"
abbrev pub unless_held : Option ℕ → ℕ → Desk → Memory → RanTo → RanTo
unless_held None k d m rest = rest
unless_held (Some place) k d m rest = ran_to (Ok (Some place)) k d m

-- ---- A run: the steps of `run` (machine: Calls: stepsOf), up to a hold

-- n steps more, after k. After the last step asked for, or a stop, no step follows, so there is no hold
unfoldable pub steps_to : (ℕ → Option ℕ) → ℕ → ℕ → Desk → Memory → RanTo
steps_to at zero k d m = ran_to (Ok None) k d m
steps_to at (suc n) k d m =
    pick (is_running d.mark)
    (unless_held (hold_of at k d) k d m
    (steps_to at n (suc k) (step_outcome d m).desk (commit (step_outcome d m).writes m)))
    (ran_to (Ok None) k d m)

-- the first armed breakpoint of the list at an R15
abbrev pub points_at : List Breakpoint → ℕ → Option ℕ
points_at ps r15 = first_armed r15 ps

-- "Refused: 20 .., tried after 7"; "Refusals return the state handed in and change no memory" (document 01)
unfoldable pub run_to_unless : Answer → Bool → Desk → Memory → RanTo → RanTo
run_to_unless (Err k) allowed d m o = ran_to (Err (Run k)) 0 d m
run_to_unless (Ok u) allowed d m o = pick allowed o (ran_to (Err Breakpoints) 0 d m)

-- at most n steps, with these breakpoints
unfoldable pub run_to_of : List Breakpoint → ℕ → Desk → Memory → RanTo
run_to_of ps n d m = run_to_unless (step_refusal d (length m)) (few ps) d m (steps_to (points_at ps) n 0 d m)

-- A run on bytes is steps on bytes: what `midesk_run` leaves is what as many calls of `midesk_step`
-- leave, one after another, each on the bytes that the one before left; and what `midesk_run_to` leaves
-- is what `midesk_run` leaves of as many steps. Statements only.
use Rattle.std.specs.Prelude.{ℕ, zero, suc, ◌+◌, ◌<◌, ◌≤◌, ◌≡◌, ◌≢◌, false, List, length}
use Rattle.machine.specs.declared.Refusal.{Refusal}
use Rattle.machine.specs.Words.{Memory, byte_at}
use Rattle.machine.specs.State.{is_running}
use Rattle.machine.specs.Calls.{refusal_number}
use Rattle.layout.specs.Layout.{state_bytes, unpacked}
use Rattle.breakpoints.specs.declared.Breakpoint.{Breakpoint}
use Rattle.midesk.specs.Exports.{kind_times, step_call, run_call, run_to_call}

-- what some calls of `midesk_step` leave
pub record Left : Type 0 where
  pub state : List ℕ
  pub memory : Memory

-- after k of them, from these bytes and this memory
unfoldable pub step_calls : ℕ → List ℕ → Memory → Left
step_calls zero b m = record { state = b; memory = m }
step_calls (suc k) b m = step_calls k (step_call b m).state (step_call b m).memory

-- the answer of one call more
unfoldable pub answer_after : ℕ → List ℕ → Memory → ℕ
answer_after k b m = (step_call (step_calls k b m).state (step_calls k b m).memory).answer

-- what `midesk_step` answers when it refuses with that number
abbrev pub refused_with : ℕ → ℕ
refused_with number = kind_times 1 + number

-- what the caller's slices hold: bytes
abbrev pub AllBytes : List ℕ → Type 0
AllBytes xs = (i : ℕ) → byte_at xs i < 256

-- a run of at most n steps from these bytes and this memory
pub record RunIsSteps (n : ℕ) (b : List ℕ) (m : Memory) : Type 0 where
  -- refused or not, it leaves what as many step calls leave as it counted
  pub state : (run_call n b m).state ≡ (step_calls (run_call n b m).steps b m).state
  pub memory : (run_call n b m).memory ≡ (step_calls (run_call n b m).steps b m).memory
  -- none of those calls is refused
  pub accepted : (i : ℕ) → i < (run_call n b m).steps → (k : Refusal)
      → answer_after i b m ≢ refused_with (refusal_number k)
  -- they are at most n; fewer where the desk stopped
  pub most : (run_call n b m).steps ≤ n
  pub fewer : (run_call n b m).answer ≡ 0 → (run_call n b m).steps < n
      → is_running (unpacked (run_call n b m).state).mark ≡ false
  -- a refused run made none, and a step call is refused with the same number
  pub refused : (run_call n b m).answer ≢ 0
      → ((run_call n b m).steps ≡ 0) × ((step_call b m).answer ≡ refused_with (run_call n b m).answer)

abbrev pub RunsAreSteps : Type 0
RunsAreSteps = (n : ℕ) (b : List ℕ) (m : Memory) → length b ≡ state_bytes → AllBytes b → AllBytes m → RunIsSteps n b m

-- a run of at most n steps with breakpoints, refused or not
pub record RunToIsRun (ps : List Breakpoint) (n : ℕ) (b : List ℕ) (m : Memory) : Type 0 where
  pub steps : (run_call (run_to_call ps n b m).steps b m).steps ≡ (run_to_call ps n b m).steps
  pub state : (run_call (run_to_call ps n b m).steps b m).state ≡ (run_to_call ps n b m).state
  pub memory : (run_call (run_to_call ps n b m).steps b m).memory ≡ (run_to_call ps n b m).memory

abbrev pub RunsToAreRuns : Type 0
RunsToAreRuns = (ps : List Breakpoint) (n : ℕ) (b : List ℕ) (m : Memory) → RunToIsRun ps n b m

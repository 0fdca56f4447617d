-- What a run leaves in bytes is what as many calls of `midesk_step` leave, one after another. The
-- bytes of a state hold all of the desk that a step leaves (StepRoom.antt), so between two steps
-- they may be taken for it.
use Rattle.std.specs.Prelude.{Ok, Err}
use Prim.Native.Nat.{ℕ, zero, suc, ◌+◌, ◌≤◌, ◌<◌}
use mathlib.Core.Path.{◌≡◌, refl}
use mathlib.Core.Bool.{Bool, true, false}
use mathlib.Core.Logic.{◌≢◌}
use mathlib.Core.List.{List}
use native.Mathlib.Omega.{arith}
use lib.ListN.{length}
use Rattle.machine.specs.declared.Refusal.{Refusal}
use Rattle.machine.specs.declared.Refusal.TheVariants as refusal
use Rattle.machine.specs.Words.{pick, Memory}
use Rattle.machine.specs.State.{is_running}
use Rattle.machine.specs.Map.{commit}
use Rattle.machine.specs.Steps.{Event, quiet, entered, stopped}
use Rattle.machine.specs.Calls.{Answer, refusal_number, step_refusal, unless_refused, step_outcome, event_answer, step_of, Ran, ran}
use Rattle.machine.specs.Calls.{steps_of, run_unless, run_of}
use Rattle.machine.proofs.Writes.{commit-length}
use Rattle.machine.proofs.Accepted.{Passes, passes, accepted, step_lasts}
use Rattle.layout.specs.Layout.{state_bytes, packed, unpacked}
use Rattle.layout.proofs.RoundTrip.{packed-unpacked, unpacked-packed}
use Rattle.midesk.specs.Exports.{step_code, step_left, step_call, run_left, run_call}
use Rattle.midesk.specs.Runs.{step_calls, answer_after, refused_with, RunIsSteps, RunsAreSteps}
use Rattle.midesk.proofs.Stops.{small_number, step_represented, unpacked_represented}
use Rattle.midesk.proofs.Room.{Below}
use Rattle.midesk.proofs.StepRoom.{room_held, unpacked_room, packed_below, packed-length, commit_below}
use Rattle.midesk.proofs.StepRoom.{HeldOutcome, step_held}

-- from these bytes: a desk that is accepted, or stopped
abbrev Going : List ℕ → Memory → Type 0
Going b m = is_running (unpacked b).mark ≡ true → Passes (unpacked b) (length m)

-- bytes of a state
record State (b : List ℕ) : Type 0 where
  size : length b ≡ state_bytes
  bytes : Below 256 b

-- ---- What one call leaves

module _ (b : List ℕ) (m : Memory) (s : State b) (h : Below 256 m) where
  left : HeldOutcome (step_outcome (unpacked b) m)
  left = step_held (unpacked b) (unpacked_room b s.bytes) m h

  step_state : State (step_call b m).state
  unfolding step_call step_left step_of
  step_state = record { size = packed-length _ left.desk.registers.count; bytes = packed_below _ }

  step_memory : Below 256 (step_call b m).memory
  unfolding step_call step_left step_of
  step_memory = commit_below _ m left.writes h

  -- the bytes hold the desk that the step leaves
  step_desk : unpacked (step_call b m).state ≡ (step_outcome (unpacked b) m).desk
  unfolding step_call step_left step_of
  step_desk =
      unpacked-packed _ (room_held _ left.desk (step_represented (unpacked b) (unpacked_represented b) m))

  -- so more steps of that desk are steps from those bytes
  steps_next : (n k : ℕ)
      → steps_of n k (step_outcome (unpacked b) m).desk (commit (step_outcome (unpacked b) m).writes m)
      ≡ steps_of n k (unpacked (step_call b m).state) (step_call b m).memory
  unfolding step_call step_left step_of
  steps_next n k = rw step_desk

  -- the desk is accepted, or stopped
  step_passes : Passes (unpacked b) (length m) → Going (step_call b m).state (step_call b m).memory
  unfolding step_call step_left step_of step_outcome unless_refused
  step_passes p =
      let e = accepted (unpacked b) (length m) p in
      rw (step_desk, e, commit-length) (step_lasts (unpacked b) m p)

-- ---- What steps leave

-- r is what some calls of `midesk_step` leave, at most n, after k steps; none of them is refused,
-- and they are n unless the desk stopped
record After (n k : ℕ) (b : List ℕ) (m : Memory) (r : Ran) : Type 0 where
  calls : ℕ
  answer : r.reply.answer ≡ Ok tt
  steps : r.reply.steps ≡ k + calls
  state : packed r.reply.desk ≡ (step_calls calls b m).state
  memory : r.memory ≡ (step_calls calls b m).memory
  accepted : (i : ℕ) → i < calls
      → step_refusal (unpacked (step_calls i b m).state) (length (step_calls i b m).memory) ≡ Ok tt
  most : calls ≤ n
  fewer : calls < n → is_running (unpacked (step_calls calls b m).state).mark ≡ false

-- no step
none : (n k : ℕ) (b : List ℕ) (m : Memory) → State b → (0 < n → is_running (unpacked b).mark ≡ false)
    → After n k b m (ran (Ok tt) k (unpacked b) m)
unfolding step_calls
none n k b m s end = record {
  calls = 0;
  answer = refl;
  steps = omega arith;
  state = packed-unpacked b s.size s.bytes.at;
  memory = refl;
  accepted = λ i h. absurd (omega arith);
  most = omega arith;
  fewer = end;
}

-- one call, then others
more : (n k : ℕ) (b : List ℕ) (m : Memory) (r : Ran) → step_refusal (unpacked b) (length m) ≡ Ok tt
    → After n (suc k) (step_call b m).state (step_call b m).memory r → After (suc n) k b m r
unfolding step_calls
more n k b m r first h = record {
  calls = suc h.calls;
  answer = h.answer;
  steps = omega arith;
  state = h.state;
  memory = h.memory;
  accepted = each;
  most = omega arith;
  fewer = λ l. h.fewer (omega arith);
}
  where
    each : (i : ℕ) → i < suc h.calls
        → step_refusal (unpacked (step_calls i b m).state) (length (step_calls i b m).memory) ≡ Ok tt
    each zero l = first
    each (suc i) l = h.accepted i (omega arith)

steps_after : (n k : ℕ) (b : List ℕ) (m : Memory) → State b → Below 256 m → Going b m
    → After n k b m (steps_of n k (unpacked b) m)
unfolding steps_of
steps_after zero k b m s h g = none 0 k b m s (λ l. absurd (omega arith))
steps_after (suc n) k b m s h g = go (is_running (unpacked b).mark) refl
    (λ p. steps_after n (suc k) _ _ (step_state b m s h) (step_memory b m s h) (step_passes b m s h p))
  where
    go : (t : Bool) → is_running (unpacked b).mark ≡ t
        → (Passes (unpacked b) (length m) → After n (suc k) (step_call b m).state (step_call b m).memory
        (steps_of n (suc k) (unpacked (step_call b m).state) (step_call b m).memory))
        → After (suc n) k b m (pick t
        (steps_of n (suc k) (step_outcome (unpacked b) m).desk (commit (step_outcome (unpacked b) m).writes m))
        (ran (Ok tt) k (unpacked b) m))
    go true e next =
        more n k b m _ (accepted (unpacked b) (length m) (g e)) (rw (steps_next b m s h n (suc k)) (next (g e)))
    go false e next = none (suc n) k b m s (λ l. e)

-- ---- Answers

number_above : (k : Refusal) → 1 ≤ refusal_number k
number_above refusal.Length = omega arith
number_above refusal.SystemBlock = omega arith
number_above refusal.ControlBlock = omega arith
number_above refusal.Map = omega arith
number_above refusal.Status = omega arith
number_above refusal.Level = omega arith
number_above refusal.Stopped = omega arith

step_refused : (b : List ℕ) (m : Memory) (k : Refusal) → step_refusal (unpacked b) (length m) ≡ Err k
    → (step_call b m).answer ≡ refused_with (refusal_number k)
unfolding step_call step_left step_of step_code
step_refused b m k e = rw e

step_accepted : (b : List ℕ) (m : Memory) → step_refusal (unpacked b) (length m) ≡ Ok tt → (k : Refusal)
    → (step_call b m).answer ≢ refused_with (refusal_number k)
unfolding step_call step_left step_of step_code
step_accepted b m e k = rw e (go (step_outcome (unpacked b) m).event)
  where
    go : (v : Event) → step_code (event_answer v) ≢ refused_with (refusal_number k)
    go quiet q = omega arith
    go (entered i saved) q = omega (arith, small_number k)
    go (stopped n) q = omega (arith, small_number k)

-- ---- The theorem

module _ (n : ℕ) (b : List ℕ) (m : Memory) (s : State b) where
  run_accepted : Below 256 m → step_refusal (unpacked b) (length m) ≡ Ok tt → RunIsSteps n b m
  unfolding run_call run_left answer_after
  run_accepted h e =
      let all : run_of n (unpacked b) m ≡ steps_of n 0 (unpacked b) m = (unfold run_of run_unless in rw e) in
      let a = steps_after n 0 b m s h (λ t. passes (unpacked b) (length m) e) in
      let count : (run_of n (unpacked b) m).reply.steps ≡ a.calls = rw all (omega arith) in
      record {
        state = rw (count, all) a.state;
        memory = rw (count, all) a.memory;
        accepted = λ i l. step_accepted _ _ (a.accepted i (omega arith));
        most = omega arith;
        fewer = λ q l. rw (all, a.state) (a.fewer (omega arith));
        refused = λ q. absurd (q (rw (all, a.answer)));
      }

  run_refused : (k : Refusal) → step_refusal (unpacked b) (length m) ≡ Err k → RunIsSteps n b m
  unfolding run_call run_left step_calls
  run_refused k e =
      let all : run_of n (unpacked b) m ≡ ran (Err k) 0 (unpacked b) m = (unfold run_of run_unless in rw e) in
      record {
        state = rw all (packed-unpacked b s.size s.bytes.at);
        memory = rw all;
        accepted = λ i l. absurd (let z = rw all at l in omega arith);
        most = rw all (omega arith);
        fewer = λ q l. absurd (let z = rw all at q in omega (arith, number_above k));
        refused = λ q. rw all (refl, step_refused b m k e);
      }

pub runs_are_steps : RunsAreSteps
runs_are_steps n b m l hb hm = go (step_refusal (unpacked b) (length m)) refl
  where
    s : State b
    s = record { size = l; bytes = record { at = hb } }

    go : (a : Answer) → step_refusal (unpacked b) (length m) ≡ a → RunIsSteps n b m
    go (Ok u) e = run_accepted n b m s (record { at = hm }) e
    go (Err k) e = run_refused n b m s k e

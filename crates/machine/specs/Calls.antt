-- Document 01, "Numbers 1 to 16": the refusals 1 to 7, and the four calls, for every input: a fresh
-- desk, a step, a run, a level request.
use Rattle.std.specs.Prelude.{ℕ, zero, suc, Bool, not, ◌&&◌, ◌≡◌, List, [], ◌∷◌, leb, length, replicate, set, Result, Ok, Err}
use Rattle.machine.specs.declared.VirtualAddress.{VirtualAddress}
use Rattle.machine.specs.declared.RealAddress.{RealAddress}
use Rattle.machine.specs.declared.Map.{Map}
use Rattle.machine.specs.declared.Mark.TheVariants.{Running, Stopped}
use Rattle.machine.specs.declared.Desk.{Desk}
use Rattle.machine.specs.declared.Refusal.{Refusal}
use Rattle.machine.specs.declared.Refusal.TheVariants as refusal
use Rattle.machine.specs.declared.StepEvent.{StepEvent}
use Rattle.machine.specs.declared.StepEvent.TheVariants as step_event
use Rattle.machine.specs.declared.Reply.{Reply}
use Rattle.machine.specs.declared.StepReply.{StepReply}
use Rattle.machine.specs.declared.RunReply.{RunReply}
use Rattle.machine.specs.Words.{pick, Memory}
use Rattle.machine.specs.State.{allowed_length, valid_status, is_pending, with_level, system_block_bytes}
use Rattle.machine.specs.State.{control_block_bytes, block_fits, map_fits, is_running, desk_with}
use Rattle.machine.specs.Map.{commit}
use Rattle.machine.specs.Steps.{Event, quiet, entered, stopped, Outcome, one_step}

-- ---- Numbers 1 to 7

abbrev pub refusal_number : Refusal → ℕ
-- "The memory length is not allowed."
refusal_number refusal.Length = 1
-- "The system block's address is no multiple of 4, or the block doesn't fit."
refusal_number refusal.SystemBlock = 2
-- "The control block's address is no multiple of 4, or the block doesn't fit."
refusal_number refusal.ControlBlock = 3
-- "The map base is no multiple of 4, or map base + 4 × map length is above the memory length (an
-- empty map too)."
refusal_number refusal.Map = 4
-- "Status has an undefined bit, or the pending set has level 0's bit."
refusal_number refusal.Status = 5
-- "A requested level is 0 or above 15."
refusal_number refusal.Level = 6
-- "A step or run was wanted of a stopped desk."
refusal_number refusal.Stopped = 7

-- whether a call was carried out: Ok tt, or Err with the refusal
abbrev pub Answer : Type 0
Answer = Result (Unit {0}) Refusal

-- 0 for none, by the number of each refusal
abbrev pub number_or_0 : {R : Type 0} → (R → ℕ) → Result (Unit {0}) R → ℕ
number_or_0 number (Ok u) = 0
number_or_0 number (Err k) = number k

abbrev pub answer_number : Answer → ℕ
answer_number = number_or_0 refusal_number

-- the same where the refusals' numbers are known as a relation
abbrev pub AnswerNumber : {R : Type 0} → (R → ℕ → Type 0) → Result (Unit {0}) R → ℕ → Type 0
AnswerNumber Number (Ok u) n = n ≡ 0
AnswerNumber Number (Err k) n = Number k n

-- number k has nothing to refuse; n is the memory's length

abbrev pub passes1 : ℕ → Bool
passes1 n = allowed_length n

abbrev pub passes2 : RealAddress → ℕ → Bool
passes2 system n = block_fits system system_block_bytes n

abbrev pub passes3 : RealAddress → ℕ → Bool
passes3 control n = block_fits control control_block_bytes n

abbrev pub passes4 : Desk → ℕ → Bool
passes4 d n = map_fits d.map n

unfoldable pub passes5 : Desk → Bool
passes5 d = valid_status d.status && not (is_pending d.pending 0)

unfoldable pub passes6 : ℕ → Bool
passes6 level = leb 1 level && leb level 15

-- "Refusals 1 to 7 are tried in number order": the first of a list whose test does not hold
unfoldable pub first_refused : List (Bool × Refusal) → Answer
first_refused [] = Ok tt
first_refused (t ∷ ts) = pick t.0 (first_refused ts) (Err t.1)

-- "no map": an empty one at 0
abbrev pub no_map : Map
no_map = record { base = record { 0 = 0 }; length = 0 }

-- ---- A fresh desk: "zero registers but a given R15, kernel mode, level 0, no map"; it "checks 1 to 3"

unfoldable pub fresh_refusal : ℕ → RealAddress → RealAddress → Answer
fresh_refusal n system control = first_refused
    ((passes1 n, refusal.Length) ∷ (passes2 system n, refusal.SystemBlock)
    ∷ (passes3 control n, refusal.ControlBlock) ∷ [])

abbrev pub fresh_desk : RealAddress → RealAddress → VirtualAddress → Desk
fresh_desk system control start = record {
  registers = set (replicate 16 0) 15 start.0;
  status = 0x8000_0000;
  pending = 0;
  map = no_map;
  system = system;
  control = control;
  mark = Running;
}

-- "refusing, returns an all-zero desk stopped with that number"
abbrev pub zero_desk : ℕ → Desk
zero_desk k = record {
  registers = replicate 16 0;
  status = 0;
  pending = 0;
  map = no_map;
  system = record { 0 = 0 };
  control = record { 0 = 0 };
  mark = Stopped k;
}

unfoldable pub fresh_reply : Answer → Desk → Reply
fresh_reply (Ok u) d = record { answer = Ok tt; desk = d }
fresh_reply (Err k) d = record { answer = Err k; desk = zero_desk (refusal_number k) }

unfoldable pub fresh_of : ℕ → RealAddress → RealAddress → VirtualAddress → Reply
fresh_of n system control start = fresh_reply (fresh_refusal n system control) (fresh_desk system control start)

-- ---- A step: refused, or one step. "Refusals return the state handed in and change no memory"

unfoldable pub step_refusal : Desk → ℕ → Answer
step_refusal d n = first_refused
    ((passes1 n, refusal.Length)
    ∷ (passes2 d.system n, refusal.SystemBlock)
    ∷ (passes3 d.control n, refusal.ControlBlock)
    ∷ (passes4 d n, refusal.Map)
    ∷ (passes5 d, refusal.Status)
    ∷ (is_running d.mark, refusal.Stopped)
    ∷ [])

unfoldable pub unchanged : Desk → Outcome
unchanged d = record { desk = d; event = quiet; writes = [] }

unfoldable pub unless_refused : Answer → Desk → Outcome → Outcome
unless_refused (Ok u) d o = o
unless_refused (Err k) d o = unchanged d

unfoldable pub step_outcome : Desk → Memory → Outcome
step_outcome d m = unless_refused (step_refusal d (length m)) d (one_step d m)

-- the answer in the code's terms
abbrev pub StepAnswer : Type 0
StepAnswer = Result StepEvent Refusal

abbrev pub event_answer : Event → StepAnswer
event_answer quiet = Ok step_event.Done
event_answer (entered i saved) = Ok (step_event.Entered i)
event_answer (stopped n) = Ok (step_event.Stopped n)

abbrev pub step_answered : Answer → Event → StepAnswer
step_answered (Ok u) e = event_answer e
step_answered (Err k) e = Err k

-- the paper's number of a step's answer: a refusal's, a cause, a stop's number; 0 for a command
-- done, for which the paper has none. The case tells which it is: 0 is also HALT's stop, 1 also the
-- cause of a system call, 2 also that of alarm 21, and 8 to 15 are causes and stops
abbrev pub step_answer_number : StepAnswer → ℕ
step_answer_number (Err k) = refusal_number k
step_answer_number (Ok step_event.Done) = 0
step_answer_number (Ok (step_event.Entered i)) = i
step_answer_number (Ok (step_event.Stopped n)) = n

-- a reply with the memory that it leaves
pub record Stepped : Type 0 where
  pub reply : StepReply
  pub memory : Memory

unfoldable pub step_of : Desk → Memory → Stepped
step_of d m = record {
  reply =
      record {
        answer = step_answered (step_refusal d (length m))
            (step_outcome d m).event;
        desk = (step_outcome d m).desk;
      };
  memory = commit (step_outcome d m).writes m;
}

-- ---- A level request: it "tries only 5 and 6; otherwise it sets that bit, on a stopped desk too"

unfoldable pub request_refusal : Desk → ℕ → Answer
request_refusal d level = first_refused ((passes5 d, refusal.Status) ∷ (passes6 level, refusal.Level) ∷ [])

unfoldable pub request_outcome : Desk → ℕ → Outcome
request_outcome d level = unless_refused (request_refusal d level) d (record {
  desk = desk_with d d.registers d.status (with_level d.pending level) d.mark;
  event = quiet;
  writes = [];
})

unfoldable pub request_of : Desk → ℕ → Reply
request_of d level = record { answer = request_refusal d level; desk = (request_outcome d level).desk }

-- ---- A run: "those steps, one after another, up to n or a stop"; it "answers with its step count, entries and stopping steps included, 0 when refused"

pub record Ran : Type 0 where
  pub reply : RunReply
  pub memory : Memory

abbrev pub ran : Answer → ℕ → Desk → Memory → Ran
ran a k d m = record { reply = record { answer = a; steps = k; desk = d }; memory = m }

-- n steps more, after k. A step of a desk that was not refused is not refused either while the desk
-- runs
unfoldable pub steps_of : ℕ → ℕ → Desk → Memory → Ran
-- "0 steps on a running desk is allowed"
steps_of zero k d m = ran (Ok tt) k d m
steps_of (suc n) k d m =
    pick (is_running d.mark) (steps_of n (suc k) (step_outcome d m).desk (commit (step_outcome d m).writes m))
    (ran (Ok tt) k d m)

unfoldable pub run_unless : Answer → Desk → Memory → Ran → Ran
run_unless (Ok u) d m o = o
run_unless (Err k) d m o = ran (Err k) 0 d m

unfoldable pub run_of : ℕ → Desk → Memory → Ran
run_of n d m = run_unless (step_refusal d (length m)) d m (steps_of n 0 d m)

-- The calls on numbers and bytes: unpack the state, make the call of `machine`, pack what it leaves.
-- A run with breakpoints is the call of `breakpoints`, a load that of `load`, of two lists that of `joint`.
use Rattle.std.specs.Prelude.{ℕ, ◌+◌, ◌*◌, List, Some, None, Ok, Err}
use Rattle.machine.specs.declared.StepEvent.TheVariants as step_event
use Rattle.machine.specs.declared.Reply.{Reply}
use Rattle.machine.specs.Words.{Memory}
use Rattle.machine.specs.Calls.{StepAnswer, answer_number, fresh_of, step_answer_number, Stepped, step_of, request_of, Ran, run_of}
use Rattle.layout.specs.Layout.{packed, unpacked}
use Rattle.breakpoints.specs.declared.Breakpoint.{Breakpoint}
use Rattle.breakpoints.specs.RunTo.{RunToAnswer, run_to_answer_number, RanTo, run_to_of}
use Rattle.lists.specs.Refusals.{desk_pieces, load_answer_number}
use Rattle.load.specs.Loading.{Loaded, load_of}
use Rattle.joint.specs.Joint.{joint_answer_number, LoadedBoth, joint_of}

-- A call that leaves the memory alone: its answer is the number of its refusal, 0 where it was
-- carried out

pub record Replied : Type 0 where
  pub answer : ℕ
  pub state : List ℕ

unfoldable pub replied_of : Reply → Replied
replied_of r = record { answer = answer_number r.answer; state = packed r.desk }

-- over a memory of n bytes
unfoldable pub fresh_call : ℕ → ℕ → ℕ → ℕ → Replied
fresh_call n system control start =
    replied_of (fresh_of n (record { 0 = system }) (record { 0 = control }) (record { 0 = start }))

unfoldable pub request_call : List ℕ → ℕ → Replied
request_call state level = replied_of (request_of (unpacked state) level)

-- A step answers with a kind, times 2^32, and the number of its answer

abbrev pub kind_times : ℕ → ℕ
kind_times k = k * 0x1_0000_0000

-- which case the answer is
abbrev pub step_kind : StepAnswer → ℕ
step_kind (Ok step_event.Done) = 0
step_kind (Err k) = 1
step_kind (Ok (step_event.Entered i)) = 2
step_kind (Ok (step_event.Stopped n)) = 3

unfoldable pub step_code : StepAnswer → ℕ
step_code a = kind_times (step_kind a) + step_answer_number a

pub record StepLeft : Type 0 where
  pub answer : ℕ
  pub state : List ℕ
  pub memory : Memory

unfoldable pub step_left : Stepped → StepLeft
step_left r = record { answer = step_code r.reply.answer; state = packed r.reply.desk; memory = r.memory }

unfoldable pub step_call : List ℕ → Memory → StepLeft
step_call state m = step_left (step_of (unpacked state) m)

-- A run answers with the number of its refusal, 0 where it was carried out, and beside it the steps
-- that it made

pub record RunLeft : Type 0 where
  pub answer : ℕ
  pub steps : ℕ
  pub state : List ℕ
  pub memory : Memory

unfoldable pub run_left : Ran → RunLeft
run_left r =
    record {
      answer = answer_number r.reply.answer;
      steps = r.reply.steps;
      state = packed
          r.reply.desk;
      memory = r.memory;
    }

unfoldable pub run_call : ℕ → List ℕ → Memory → RunLeft
run_call n state m = run_left (run_of n (unpacked state) m)

-- A run with breakpoints answers with a kind, times 2^32, and the number of its answer, and beside it the steps
-- that it made

-- which case the answer is; 2 and 3 are kinds of a step
abbrev pub run_to_kind : RunToAnswer → ℕ
run_to_kind (Ok None) = 0
run_to_kind (Err k) = 1
run_to_kind (Ok (Some place)) = 4

unfoldable pub run_to_code : RunToAnswer → ℕ
run_to_code a = kind_times (run_to_kind a) + run_to_answer_number a

unfoldable pub run_to_left : RanTo → RunLeft
run_to_left r =
    record {
      answer = run_to_code r.reply.answer;
      steps = r.reply.steps;
      state = packed r.reply.desk;
      memory = r.memory;
    }

unfoldable pub run_to_call : List Breakpoint → ℕ → List ℕ → Memory → RunLeft
run_to_call ps n state m = run_to_left (run_to_of ps n (unpacked state) m)

-- A load answers with the number of its refusal, 0 where it was carried out; it asks for no state

pub record LoadLeft : Type 0 where
  pub answer : ℕ
  pub memory : Memory

unfoldable pub load_left : Loaded → LoadLeft
load_left r = record { answer = load_answer_number r.answer; memory = r.memory }

unfoldable pub load_call : Memory → List ℕ → LoadLeft
load_call m list = load_left (load_of desk_pieces m list)

-- So does a load of two lists, which leaves a scratch too

pub record LoadBothLeft : Type 0 where
  pub answer : ℕ
  pub memory : Memory
  pub scratch : List ℕ

unfoldable pub load_both_left : LoadedBoth → LoadBothLeft
load_both_left r = record { answer = joint_answer_number r.answer; memory = r.memory; scratch = r.scratch }

unfoldable pub load_both_call : Memory → List ℕ → List ℕ → List ℕ → LoadBothLeft
load_both_call m first second s = load_both_left (joint_of m first second s)

-- The version, 3.2.2, as one number

abbrev pub version_of : ℕ → ℕ → ℕ → ℕ
version_of major minor patch = major * 65536 + minor * 256 + patch

unfoldable pub version : ℕ
version = version_of 3 2 2

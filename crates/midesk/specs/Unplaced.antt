-- A run with breakpoints on bytes, in two parts: with the armed addresses alone, which leaves R15, and the answer
-- once the list was searched for it.
use Rattle.std.specs.Prelude.{ℕ, List, ltb, Option, Some, None, Ok, Err}
use Rattle.machine.specs.Words.{pick, Memory}
use Rattle.machine.specs.State.{reg}
use Rattle.breakpoints.specs.declared.armed.Armed.{Armed}
use Rattle.breakpoints.specs.Breakpoints.{most}
use Rattle.breakpoints.specs.Gathered.{run_armed_of}
use Rattle.breakpoints.specs.RunTo.{RunToAnswer, RanTo}
use Rattle.layout.specs.Layout.{packed, unpacked}
use Rattle.midesk.specs.declared.Unplaced.{Unplaced}
use Rattle.midesk.specs.Exports.{run_to_code}

pub record BytesLeft : Type 0 where
  pub unplaced : Unplaced
  pub steps : ℕ
  pub state : List ℕ
  pub memory : Memory

unfoldable pub bytes_left : RanTo → BytesLeft
bytes_left r =
    record {
      unplaced = record { answer = r.reply.answer; r15 = reg r.reply.desk.registers 15 };
      steps = r.reply.steps;
      state = packed r.reply.desk;
      memory = r.memory;
    }

unfoldable pub run_bytes_of : Armed → ℕ → List ℕ → Memory → BytesLeft
run_bytes_of a n state m = bytes_left (run_armed_of a n (unpacked state) m)

-- a place that no list has counts as none
abbrev pub held_code : Option ℕ → ℕ
held_code None = run_to_code (Ok None)
held_code (Some place) = pick (ltb place most) (run_to_code (Ok (Some place))) (run_to_code (Ok None))

abbrev pub code_by : RunToAnswer → Option ℕ → ℕ
code_by (Err k) found = run_to_code (Err k)
code_by (Ok None) found = run_to_code (Ok None)
code_by (Ok (Some i)) found = held_code found

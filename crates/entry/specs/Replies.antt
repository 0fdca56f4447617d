-- What a step hands back, with the memory that it leaves, from an outcome of `machine` or from a
-- command's end.
use Rattle.std.specs.Prelude.{ℕ, ◌+◌, ◌≤◌, false, ◌≡◌, length, Result, Ok, Err}
use Rattle.machine.specs.declared.Alarm.{Alarm}
use Rattle.machine.specs.declared.Desk.{Desk}
use Rattle.machine.specs.declared.Fault.{Fault}
use Rattle.machine.specs.declared.StepReply.{StepReply}
use Rattle.machine.specs.declared.StepEvent.TheVariants as step_event
use Rattle.machine.specs.Words.{pick, Memory}
use Rattle.machine.specs.State.{user_mode, system_block_of, system_block_bytes, control_block_bytes, desk_with}
use Rattle.machine.specs.Alarms.{alarm_number, alarm_cause}
use Rattle.machine.specs.Map.{real_of, commit}
use Rattle.machine.specs.Steps.{Outcome, Plan, enters, concluded, stop, halt, resume}
use Rattle.machine.specs.Calls.{StepAnswer, Stepped, event_answer}
use Rattle.results.specs.declared.Out.{Out}
use Rattle.results.specs.declared.Out.TheVariants as out
use Rattle.results.specs.Ends.{End, command_done, system_called, halted, resumed, alarmed}

-- what kernel entries rely on, part of what numbers 2 and 3 make sure of
pub record Blocks (d : Desk) (m : Memory) : Type 0 where
  pub system : d.system.0 + system_block_bytes ≤ length m
  pub control : d.control.0 + control_block_bytes ≤ length m

-- a command that names a control block to resume from ran in kernel mode, so that its address is
-- real
abbrev pub ResumesInKernelMode : ℕ → Result Out Fault → Type 0
ResumesInKernelMode s (Ok (out.Done t)) = Unit {0}
ResumesInKernelMode s (Ok (out.System x)) = Unit {0}
ResumesInKernelMode s (Ok out.Halt) = Unit {0}
ResumesInKernelMode s (Ok (out.Resume a)) = user_mode s ≡ false
ResumesInKernelMode s (Err e) = Unit {0}

abbrev pub stepped : StepReply → Memory → Stepped
stepped r m = record { reply = r; memory = m }

abbrev pub stepped_to : StepAnswer → Desk → Memory → Stepped
stepped_to a d m = stepped (record { answer = a; desk = d }) m

abbrev pub reply_of : Outcome → StepReply
reply_of o = record { answer = event_answer o.event; desk = o.desk }

-- an outcome over memory m
abbrev pub shown : Outcome → Memory → Stepped
shown o m = stepped (reply_of o) (commit o.writes m)

-- a plan over memory m: a kernel entry reads the system block
abbrev pub entered_by : Desk → Memory → Plan → Stepped
entered_by d m c = shown (concluded d (system_block_of d m) c) m

-- an alarm enters the kernel in user mode and stops the desk in kernel mode
abbrev pub alarmed_by : Desk → Memory → Alarm → ℕ → Stepped
alarmed_by d m k x =
    pick (user_mode d.status) (entered_by d m (enters (alarm_cause k) d.registers x d.pending))
    (shown (stop (alarm_number k) d) m)

-- a command's end, of desk d over memory m
unfoldable pub concluded_end : Desk → Memory → End → Stepped
concluded_end d m (command_done r s n) =
    stepped (record { answer = Ok step_event.Done; desk = desk_with d r s d.pending d.mark }) n
concluded_end d m (system_called x r n) = entered_by d m (enters 1 r x d.pending)
concluded_end d m (halted r n) = shown (halt r d) m
concluded_end d m (resumed x n) = shown (resume d m (real_of x)) m
concluded_end d m (alarmed k x n) = alarmed_by d m k x

-- `conclude` is right: each way to end is one case of the definition.
use mathlib.Core.Path.{◌≡◌}
use Rattle.machine.specs.Steps.{halt}
use Rattle.machine.specs.Map.{commit}
use Rattle.results.specs.declared.Out.TheVariants as out
use Rattle.entry.specs.Replies.{concluded_end}
use Rattle.entry.proofs.Quiet.{resume_quiet}
use Rattle.entry.proofs.conclude.Goals as goal

pub returns-in-Ok-Done : goal.returns-in-Ok-Done
unfolding concluded_end
returns-in-Ok-Done c =
    let end : c.in-Ok-Done.field-0 ≡ out.Done c.in-Ok-Done.s = rw c.in-Ok-Done.is at c.in-Ok-Done.field-0-is in
    simp (c.in-Ok-Done.is, end, c.done.ensures)

pub returns-in-Ok-System : goal.returns-in-Ok-System
unfolding concluded_end
returns-in-Ok-System c =
    let end : c.in-Ok-System.field-0 ≡ out.System c.in-Ok-System.x = rw c.in-Ok-System.is at c.in-Ok-System.field-0-is in
    rw (c.in-Ok-System.is, end) c.enter.ensures

pub returns-in-Ok-Halt : goal.returns-in-Ok-Halt
unfolding concluded_end halt commit
returns-in-Ok-Halt c =
    let end : c.in-Ok-Halt.field-0 ≡ out.Halt = rw c.in-Ok-Halt.is at c.in-Ok-Halt.field-0-is in
    simp (c.in-Ok-Halt.is, end, c.with-desk.ensures)

pub returns-in-Ok-Resume : goal.returns-in-Ok-Resume
unfolding concluded_end
returns-in-Ok-Resume c =
    let end : c.in-Ok-Resume.field-0 ≡ out.Resume c.in-Ok-Resume.x = rw c.in-Ok-Resume.is at c.in-Ok-Resume.field-0-is in
    rw (c.in-Ok-Resume.is, end, resume_quiet, ← c.real.ensures, c.resume.ensures)

pub returns-in-Err : goal.returns-in-Err
unfolding concluded_end
returns-in-Err c = rw c.in-Err.is c.break_off.ensures

-- Each case has its kind, and its number is added.
use Rattle.std.proofs.Common.{rules}
use Rattle.midesk.specs.Exports.{step_code}
use Rattle.midesk.proofs.step_code.Goals as goal

pub returns-in-Ok-Done : goal.returns-in-Ok-Done
unfolding step_code
returns-in-Ok-Done c = search rules

pub returns-in-Err : goal.returns-in-Err
unfolding step_code
returns-in-Err c = search rules

pub returns-in-Ok-Entered : goal.returns-in-Ok-Entered
unfolding step_code
returns-in-Ok-Entered c = search rules

pub returns-in-Ok-Stopped : goal.returns-in-Ok-Stopped
unfolding step_code
returns-in-Ok-Stopped c = search rules

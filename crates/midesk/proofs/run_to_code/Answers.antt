-- Each case has its kind, and its number is added.
use Rattle.std.proofs.Common.{rules}
use Rattle.midesk.specs.Exports.{run_to_code}
use Rattle.midesk.proofs.run_to_code.Goals as goal

pub returns-in-Err : goal.returns-in-Err
unfolding run_to_code
returns-in-Err c = search rules

pub returns-in-Ok-None : goal.returns-in-Ok-None
unfolding run_to_code
returns-in-Ok-None c = search rules

-- The theorem `runs_to_are_runs`: what a run with breakpoints leaves in bytes is what a run of as many steps leaves.
use mathlib.Core.Path.{◌≡◌, ap}
use lib.ListN.{length}
use Rattle.machine.specs.Calls.{Ran, ran, step_refusal, run_of}
use Rattle.breakpoints.specs.RunTo.{run_to_of}
use Rattle.breakpoints.proofs.Holding.{holding_points}
use Rattle.layout.specs.Layout.{packed, unpacked}
use Rattle.midesk.specs.Exports.{run_left, run_call, run_to_left, run_to_call}
use Rattle.midesk.specs.Runs.{RunsToAreRuns}

pub runs_to_are_runs : RunsToAreRuns
unfolding run_call run_left run_to_call run_to_left
runs_to_are_runs ps n b m =
    let r = run_to_of ps n (unpacked b) m in
    let same : run_of r.reply.steps (unpacked b) m
    ≡ ran (step_refusal (unpacked b) (length m)) r.reply.steps r.reply.desk r.memory =
    (holding_points.runs ps n (unpacked b) m).steps in
    record {
      steps = ap (λ (q : Ran). q.reply.steps) same;
      state = ap (λ (q : Ran). packed q.reply.desk) same;
      memory = ap (λ (q : Ran). q.memory) same;
    }

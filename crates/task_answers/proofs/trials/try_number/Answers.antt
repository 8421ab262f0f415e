use Rattle.task_answers.proofs.TrialRuns.{run_of_trial}
use Rattle.task_answers.proofs.trials.try_number.Goals as goal

pub try_run-requires-clause-run : goal.try_run-requires-clause-run
try_run-requires-clause-run g c =
    run_of_trial c.args.number _ _ _ _ c.in_ok-image.ensures c.new-none.ensures c.none-2.ensures
    c.in_ok-secret.ensures.is

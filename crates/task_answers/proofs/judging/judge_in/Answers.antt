use Rattle.lockstep_replay.specs.LentTasks.{limits_in, task_in}
use Rattle.task_answers.proofs.judging.judge_in.Goals as goal

pub returns : goal.returns
returns c =
    c.run_keeping.ensures (task_in c.args.task.now) (limits_in c.args.task.now) c.args.secret.now
    c.in_ok-lockstep.ensures

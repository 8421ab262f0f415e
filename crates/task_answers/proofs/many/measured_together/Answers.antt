use Rattle.command_tasks.proofs.Others.{short_tested}
use Rattle.task_answers.proofs.many.measured_together.Goals as goal

pub measure_all-requires-clause-short : goal.measure_all-requires-clause-short
measure_all-requires-clause-short g c = short_tested c.args.runs.now.secrets.now c.requires.bounded.secrets

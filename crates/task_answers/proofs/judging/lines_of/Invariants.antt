use Rattle.std.proofs.Common.{◌≡◌, ◌≤◌, ◌+◌, ◌++◌, drop}
use Rattle.lockstep_replay.specs.LentTasks.{limits_in, task_in}
use Rattle.task_answers.specs.Checks.{judgements_of}
use Rattle.task_answers.specs.Texts.{accepted_count, verdict_lines}
use Rattle.task_answers.proofs.judging.lines_of.Given as goal

abbrev pub invariant-loop-place : goal.invariant-loop-place
invariant-loop-place l = record {
  few : l.accepted ≤ l.place;
  text :
      l.text.items ++ verdict_lines (l.place + 1)
      (judgements_of (task_in l.task) (limits_in l.task) (drop l.place l.secrets))
      ≡ verdict_lines 1 (judgements_of (task_in l.task) (limits_in l.task) l.secrets);
  count :
      l.accepted + accepted_count (judgements_of (task_in l.task) (limits_in l.task) (drop l.place l.secrets))
      ≡ accepted_count (judgements_of (task_in l.task) (limits_in l.task) l.secrets);
}

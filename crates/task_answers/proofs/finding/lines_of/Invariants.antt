use Rattle.std.proofs.Common.{◌≡◌, ◌≤◌, ◌+◌, ◌++◌, List, drop}
use Rattle.lockstep_replay.specs.LentTasks.{limits_in, task_in}
use Rattle.taint_check.specs.Tainted.{Finding}
use Rattle.task_answers.specs.Finding.{AreFindings}
use Rattle.task_answers.specs.Texts.{clean_count, finding_lines}
use Rattle.task_answers.proofs.finding.lines_of.Given as goal

abbrev pub invariant-loop-place : goal.invariant-loop-place
invariant-loop-place g l = record {
  few : l.clean ≤ l.place;
  -- with any findings of the secrets that are left there are findings of all
  found :
      (rest : List Finding) →
      AreFindings l.book.table (task_in l.task) (limits_in l.task)
      (drop l.place l.secrets) rest →
      (findings : List Finding)
      × AreFindings l.book.table (task_in l.task) (limits_in l.task) l.secrets findings
      × (l.text.items ++ finding_lines (l.place + 1) rest ≡ finding_lines 1 findings)
      × (l.clean + clean_count rest ≡ clean_count findings);
}

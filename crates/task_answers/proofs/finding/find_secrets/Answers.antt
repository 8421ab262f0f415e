use Rattle.std.proofs.Common.{◌≡◌, ◌++◌, Ok, sym, subst, ap, arith}
use Rattle.std.proofs.lemmas.Grind.{common_steps}
use Rattle.cut_file.specs.Pictures.{cut_picture}
use Rattle.lockstep_replay.specs.LentTasks.{task_in}
use Rattle.command_tasks.specs.ReadTasks.{guest_in}
use Rattle.task_answers.specs.Private.JudgedLimits.{limits_in}
use Rattle.task_answers.specs.Checks.{judged_by}
use Rattle.task_answers.specs.Finding.{AreFindings}
use Rattle.task_answers.proofs.FindingLines.{length_findings, made_reply}
use Rattle.task_answers.proofs.finding.find_secrets.Goals as goal

pub returns : goal.returns
returns g c =
    let (findings, found, lines, clean) = c.in_ok-lines.ensures in
    let table = c.args.book.now.table in
    let secrets = c.args.secrets.now in
    let judged = judged_by (guest_in c.args.guest.now) (cut_picture c.args.cut.now) in
    let limits = limits_in c.args.limits in
    let are : AreFindings table judged limits secrets findings =
    subst (λ task. AreFindings table task limits secrets findings) c.lent_task-task.ensures.task
    (subst (λ limits. AreFindings table (task_in c.lent_task-task.result) limits secrets findings)
    c.lent_task-task.ensures.limits found) in
    let count = length_findings table judged limits secrets findings are in
    let text : c.from_vec.result ≡ c.in_ok-lines.lines.text.items ++ c.in_ok-counts.counts = grind (arith, common_steps) in (
      findings,
      are,
      ap (λ r. Ok r) (made_reply _ _ _ _ _ _ c.args.limits.budget findings c.status_of-status.ensures text lines
          c.in_ok-counts.ensures clean (sym count)),
    )

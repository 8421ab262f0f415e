use Rattle.std.proofs.Common.{◌∷◌, ◌+◌, [], List, refl, sym, subst, arith}
use Rattle.std.proofs.Math.ListN.{drop_of_length-le}
use Rattle.std.proofs.lemmas.Grind.{common_steps}
use Rattle.std.proofs.lemmas.List.{drop_more}
use Rattle.lockstep_replay.specs.LentTasks.{limits_in, task_in}
use Rattle.taint_check.specs.Tainted.{Finding, finding_of}
use Rattle.task_answers.specs.Finding.{AreFindings}
use Rattle.task_answers.proofs.FindingLines.{all_findings, next_finding}
use Rattle.task_answers.proofs.finding.lines_of.Goals as goal

pub loop-place-preserved : goal.loop-place-preserved
loop-place-preserved g c =
    let l = c.loop-place in
    let table = c.args.book.now.table in
    let judged = task_in c.args.task.now in
    let limits = limits_in c.args.task.now in
    let secrets = c.args.secrets.now in
    let finding : Finding = finding_of c.in_ok-verdict.verdict in
    record {
      few = omega (arith, l.invariant.few, c.clean_by-clean.ensures.one);
      found = λ rest. λ are.
          let left = drop_more secrets l.place c.index-secrets-place.result c.loop-place-test.true in
          next_finding table judged limits secrets l.text.items c.in_ok-line.line c.extend_from_slice.new.self.items
          l.place (l.place + 1) l.clean c.clean_by-clean.result finding rest refl
          (grind (arith, common_steps)) c.in_ok-line.ensures c.clean_by-clean.ensures.count
          (l.invariant.found (finding ∷ rest)
          (subst (λ (ss : List _). AreFindings table judged limits ss (finding ∷ rest)) (sym left)
          (rw c.index-secrets-place.is at c.in_ok-verdict.ensures, are)));
    }

pub returns : goal.returns
returns g c =
    let l = c.loop-place in
    let table = c.args.book.now.table in
    let judged = task_in c.args.task.now in
    let limits = limits_in c.args.task.now in
    let none = drop_of_length-le c.args.secrets.now {i = l.place} (omega (arith, c.loop-place-test.false)) in
    all_findings table judged limits c.args.secrets.now l.text.items l.place l.clean
    (l.invariant.found [] (subst (λ (ss : List _). AreFindings table judged limits ss []) (sym none) tt))

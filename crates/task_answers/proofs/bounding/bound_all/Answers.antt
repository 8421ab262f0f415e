use Rattle.std.proofs.Common.{Ok, inl, subst}
use Rattle.std.proofs.lemmas.Result.{IfOk-weaker}
use Rattle.every_secret.specs.AnyPublic.{seen_task}
use Rattle.every_secret.specs.Bounds.{IsVerdict}
use Rattle.command_tasks.specs.ReadTasks.{all_secrets_in}
use Rattle.task_answers.specs.Bounding.{bound_limits, bound_of, public_of, rules_by}
use Rattle.task_answers.specs.Checks.{judged_by}
use Rattle.task_answers.proofs.BoundAnswers.{bounded_answers}
use Rattle.task_answers.proofs.bounding.bound_all.Goals as goal

pub returns-in-Bounded : goal.returns-in-Bounded
returns-in-Bounded g c =
    let all = all_secrets_in c.args.all.now in
    let shows = subst (λ v. IsVerdict (rules_by all.settings.table (public_of all)) (seen_task (public_of all) (judged_by all.guest all.cut))
    (bound_limits all) all.settings.paths v) c.in-Bounded.is c.in_ok-found.ensures.answer in
    IfOk-weaker c.bounded_reply.result _ _
    (λ reply answers. inl (bounded_answers all c.in-Bounded.found (bound_of all) (Ok reply) shows
    c.in_ok-found.ensures.all answers))
    c.bounded_reply.ensures

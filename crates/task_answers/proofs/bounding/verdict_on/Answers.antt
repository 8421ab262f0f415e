use Rattle.std.proofs.Common.{◌∙◌, subst, sym}
use Rattle.std.proofs.lemmas.Result.{IfOk-weaker}
use Rattle.every_secret.specs.AnyPublic.{TellsOf, seen_task}
use Rattle.every_secret.specs.Bounds.{BoundOf, IsVerdict}
use Rattle.every_secret.specs.Rules.{AnswerAs}
use Rattle.command_tasks.specs.ReadTasks.{all_secrets_in}
use Rattle.task_answers.specs.Bounding.{bound_limits, public_of, rules_by}
use Rattle.task_answers.specs.Checks.{judged_by}
use Rattle.task_answers.proofs.TableRules.{table_rules}
use Rattle.task_answers.proofs.bounding.verdict_on.Goals as goal

pub returns-clause-answer : goal.returns-clause-answer
returns-clause-answer g c =
    let table = c.args.all.now.settings.table in
    let known = c.requires.bounded in
    let public = public_of (all_secrets_in c.args.all.now) in
    let task = judged_by (all_secrets_in c.args.all.now).guest (all_secrets_in c.args.all.now).cut in
    let rules = table_rules c.tables_have_rules.ensures c.tables_are_sound.ensures table public known.first known.last in
    IfOk-weaker c.bound.result _ _
    (λ verdict shows.
    subst (λ p. IsVerdict (rules_by table public) (seen_task p task)
    (bound_limits (all_secrets_in c.args.all.now)) c.args.all.now.settings.paths verdict) c.known_of.ensures
    (shows (rules_by table public)
    (subst (λ t. AnswerAs t (rules_by table public)) (sym c.book_of.ensures) rules.answers)
    (rules.known ∙ sym c.known_of.ensures)))
    c.bound.ensures.answer

pub returns-clause-all : goal.returns-clause-all
returns-clause-all g c =
    let table = c.args.all.now.settings.table in
    let known = c.requires.bounded in
    let public = public_of (all_secrets_in c.args.all.now) in
    let task = judged_by (all_secrets_in c.args.all.now).guest (all_secrets_in c.args.all.now).cut in
    let rules = table_rules c.tables_have_rules.ensures c.tables_are_sound.ensures table public known.first known.last in
    subst (λ p. TellsOf p task (bound_limits (all_secrets_in c.args.all.now))
    (BoundOf (rules_by table public) (seen_task p task)
    (bound_limits (all_secrets_in c.args.all.now)))) c.known_of.ensures
    (c.bound.ensures.all (rules_by table public) rules.sound (rules.known ∙ sym c.known_of.ensures))

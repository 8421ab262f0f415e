use Rattle.std.proofs.Common.{◌≡◌, ◌∙◌, Ok, Err, inl, inr, ap, subst, arith}
use Rattle.std.proofs.lemmas.Grind.{common_steps}
use Rattle.std.proofs.lemmas.Result.{err_from_is_err_and}
use Rattle.command_tasks.specs.Tasks.{RunTask}
use Rattle.command_tasks.proofs.Refusing.{known_refusal}
use Rattle.task_answers.specs.Replies.{done_by}
use Rattle.task_answers.specs.Runs.{IsMeasured, IsRunRefusal}
use Rattle.task_answers.proofs.trials.try_run.Goals as goal

pub line_of_run-requires-clause-measured : goal.line_of_run-requires-clause-measured
line_of_run-requires-clause-measured g c =
    subst (λ (r : RunTask). IsMeasured r c.in_ok-measured.measured) c.requires.run c.in_ok-measured.ensures.ok

pub returns-in_err-measured : goal.returns-in_err-measured
returns-in_err-measured g c = λ known.
    let refusal = c.in_err-measured.field-0.0 in
    let same : c.from_residual.result ≡ Err refusal = grind (arith, common_steps) in
    let apart = known_refusal refusal c.from_residual.result same known in
    inl (
      refusal,
      subst (λ (r : RunTask). IsRunRefusal r refusal) c.requires.run (c.in_err-measured.ensures.err apart),
      same,
    )

pub returns-in_err-text : goal.returns-in_err-text
returns-in_err-text g c = λ known.
    let exit = err_from_is_err_and c.from_residual-in_err-text.result c.from_residual-in_err-text.ensures.1 in
    absurd (known (exit.1 ∙ ap (λ r. Err r) exit.2))

pub returns : goal.returns
returns g c = λ known.
    let measured = c.in_ok-measured.measured in
    inr (
      measured,
      subst (λ (r : RunTask). IsMeasured r measured) c.requires.run c.in_ok-measured.ensures.ok,
      ap (λ r. Ok r) c.done.ensures ∙ ap done_by c.in_ok-text.ensures,
    )

use Rattle.std.proofs.lemmas.Result.{err_from_is_err_and}
use Rattle.region_learn.specs.LearnAnswers.{RefusesToLearn}
use Rattle.region_learn.specs.declared.faults.LearnFault.TheVariants.{Memory as NoRoomForLearning}
use Rattle.command_tasks.specs.declared.refusals.Refusal.TheVariants.{Learn}
use Rattle.command_tasks.specs.ReadTasks.{guest_in}
use Rattle.command_tasks.proofs.Refusing.{refused_first}
use Rattle.task_answers.specs.Learning.{learnt_run}
use Rattle.task_answers.proofs.learning.declaration.Goals as goal

pub returns-in_err-regions-clause-err : goal.returns-in_err-regions-clause-err
returns-in_err-regions-clause-err c =
    let exit = err_from_is_err_and c.from_residual.result c.from_residual.ensures.1 in
    refused_first (RefusesToLearn (learnt_run (guest_in c.args.guest.now) c.args.secret.now c.args.turns)) NoRoomForLearning
    (λ f. Learn f) c.in_err-regions.field-0.0 exit.0 c.from_residual.result exit.1 exit.2 c.in_err-regions.ensures.err

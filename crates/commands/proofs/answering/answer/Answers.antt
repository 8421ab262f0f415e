use Rattle.std.proofs.Common.{◌≡◌, Err, inl, inr, refl, sym, arith}
use Rattle.std.proofs.lemmas.Grind.{common_steps}
use Rattle.command_line.specs.Words.{command_of}
use Rattle.command_tasks.specs.ReadTasks.{task_in}
use Rattle.command_tasks.proofs.Refusing.{err_apart, known_refusal}
use Rattle.commands.proofs.FineAnswers.{task_blames_no_load}
use Rattle.commands.proofs.Wanted.{all_loads, none_wanted}
use Rattle.commands.proofs.answering.answer.Goals as goal

pub returns-in_default-clause-answers : goal.returns-in_default-clause-answers
returns-in_default-clause-answers g c = λ known.
    inl (_, inl (sym (rw c.in_default.is at c.in_ok-command.ensures), refl), refl)

pub returns-in_default-clause-leaves : goal.returns-in_default-clause-leaves
returns-in_default-clause-leaves g c = λ known.
    none_wanted (g.F.Files.told c.args.files.now) _ (rw c.in_default.is at c.in_ok-command.ensures)

pub returns-in_err-loaded-clause-answers : goal.returns-in_err-loaded-clause-answers
returns-in_err-loaded-clause-answers g c = λ known.
    let refusal = c.in_err-loaded.field-0.0 in
    let same : c.from_residual-in_err-loaded.result ≡ Err refusal = grind (arith, common_steps) in
    let apart = known_refusal refusal c.from_residual-in_err-loaded.result same known in
    inl (
      refusal,
      inr (
        command_of c.in-Some.command,
        sym (rw c.in-Some.is at c.in_ok-command.ensures),
        inl (rw (c.as_slice.ensures, c.in_ok-wants.ensures) at c.in_err-loaded.ensures.loads (err_apart refusal (Err refusal) refl apart)),
      ),
      same,
    )

pub returns-in_err-loaded-clause-leaves : goal.returns-in_err-loaded-clause-leaves
returns-in_err-loaded-clause-leaves g c = λ known.
    let refusal = c.in_err-loaded.field-0.0 in
    let same : c.from_residual-in_err-loaded.result ≡ Err refusal = grind (arith, common_steps) in
    let apart = known_refusal refusal c.from_residual-in_err-loaded.result same known in
    all_loads (g.F.Files.told c.args.files.now) _ (command_of c.in-Some.command) _
    (rw c.in-Some.is at c.in_ok-command.ensures)
    (rw (c.as_slice.ensures, c.in_ok-wants.ensures) at c.in_err-loaded.ensures.leaves (err_apart refusal (Err refusal) refl apart))

pub returns-in_err-task-clause-answers : goal.returns-in_err-task-clause-answers
returns-in_err-task-clause-answers g c = λ known.
    let refusal = c.in_err-task.field-0.0 in
    let same : c.from_residual-in_err-task.result ≡ Err refusal = grind (arith, common_steps) in
    let apart = known_refusal refusal c.from_residual-in_err-task.result same known in
    inl (
      refusal,
      inr (
        command_of c.in-Some.command,
        sym (rw c.in-Some.is at c.in_ok-command.ensures),
        inr (
          c.in_ok-loaded.loaded,
          rw (c.as_slice.ensures, c.in_ok-wants.ensures) at c.in_ok-loaded.ensures.loads (λ e. cc),
          rw c.as_slice-2.ensures at c.in_err-task.ensures.err apart,
        ),
      ),
      same,
    )

pub returns-clause-answers : goal.returns-clause-answers
returns-clause-answers g c = λ known.
    inr (record {
      command = command_of c.in-Some.command;
      named = sym (rw c.in-Some.is at c.in_ok-command.ensures);
      files = c.in_ok-loaded.loaded;
      loads = rw (c.as_slice.ensures, c.in_ok-wants.ensures) at c.in_ok-loaded.ensures.loads (λ e. cc);
      task = task_in c.in_ok-task.task;
      spelled = rw c.as_slice-2.ensures at c.in_ok-task.ensures.ok;
      answers = c.answer_task.ensures known;
    })

pub returns-clause-cause : goal.returns-clause-cause
returns-clause-cause g c = λ name e.
    absurd (task_blames_no_load (task_in c.in_ok-task.task) c.answer_task.result name (c.answer_task.ensures (λ same. cc)) e)

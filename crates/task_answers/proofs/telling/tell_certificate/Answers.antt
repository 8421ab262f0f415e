use Rattle.std.proofs.Common.{Ok, inr, ap}
use Rattle.command_tasks.specs.ReadTasks.{run_in}
use Rattle.task_answers.proofs.Certified.{certified}
use Rattle.task_answers.proofs.telling.tell_certificate.Goals as goal

pub certificate_text-requires : goal.certificate_text-requires
certificate_text-requires g c =
    certified (run_in c.args.run.now) c.in_ok-measured.measured c.in_ok-measured.ensures.ok c.requires.bounded.secret

pub returns : goal.returns
returns g c = λ known.
    inr (
      c.in_ok-measured.measured,
      c.in_ok-measured.ensures.ok,
      (c.in_ok-text.text, c.in_ok-text.ensures, ap (λ r. Ok r) c.done.ensures),
    )

use Rattle.std.proofs.Common.{◌∙◌, ap}
use Rattle.task_answers.specs.Trials.{trial_line}
use Rattle.task_answers.proofs.trials.line_of_run.Goals as goal

pub crossing-requires-clause-guest : goal.crossing-requires-clause-guest
crossing-requires-clause-guest c = ap (λ r. r.guest) c.requires.run

pub crossing-requires-clause-secret : goal.crossing-requires-clause-secret
crossing-requires-clause-secret c = ap (λ r. r.secret) c.requires.run

pub line-requires : goal.line-requires
line-requires c = record { secret = ap (λ r. r.secret) c.requires.run }

pub returns : goal.returns
returns c = c.in_ok-text.ensures ∙ ap (trial_line c.args.number c.args.measured.now) c.in_ok-crossing.ensures

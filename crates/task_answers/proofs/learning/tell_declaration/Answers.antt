use Rattle.std.proofs.Common.{Ok, inr, ap}
use Rattle.task_answers.proofs.learning.tell_declaration.Goals as goal

pub returns : goal.returns
returns c = λ known.
    inr (
      c.in_ok-regions.regions.items,
      c.in_ok-regions.ensures.ok,
      (c.in_ok-text.text, c.in_ok-text.ensures.text, c.in_ok-text.ensures.reads, ap (λ r. Ok r) c.done.ensures),
    )

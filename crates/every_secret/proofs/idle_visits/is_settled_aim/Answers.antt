use Rattle.every_secret.proofs.idle_visits.is_settled_aim.Goals as goal

pub returns-in-Put : goal.returns-in-Put
returns-in-Put c = λ held yes. rw c.in-Put.is (c.is_settled.ensures held yes)

pub returns-else-skipped : goal.returns-else-skipped
returns-else-skipped c = λ held yes. rw c.in-Give.is (c.if-skipped.false, c.is_settled-in-Give.ensures held yes)

use Rattle.rv32im_machine.proofs.Steps.{coming_end, coming_visit}
use Rattle.rv32im_machine.proofs.laws.next_follows_the_step.Goals as goal
use Rattle.rv32im_machine.specs.Rows.{walk_of}

pub returns-clause-visits : goal.returns-clause-visits
returns-clause-visits c state = coming_visit (walk_of state)

pub returns-clause-end : goal.returns-clause-end
returns-clause-end c state = coming_end (walk_of state)

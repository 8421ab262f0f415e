use Rattle.rv32im_machine.specs.Language.{walked}
use Rattle.rv32im_machine.proofs.walker.turn_by.Goals as goal

pub returns-in-Exited-clause-plays : goal.returns-in-Exited-clause-plays
unfolding walked
returns-in-Exited-clause-plays g c = rw (← c.in-Exited.ensures) (g.met.P.Passer.at_end _ _)

pub returns-in-Stopped-clause-plays : goal.returns-in-Stopped-clause-plays
unfolding walked
returns-in-Stopped-clause-plays g c = rw (← c.in-Stopped.ensures) (g.met.P.Passer.at_end _ _)

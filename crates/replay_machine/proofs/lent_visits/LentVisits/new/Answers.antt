use Rattle.replay_machine.proofs.MasksAhead.{first_ahead}
use Rattle.replay_machine.proofs.lent_visits.LentVisits.new.Goals as goal

pub returns : goal.returns
returns c = first_ahead c.args.table.now c.in_ok-cursors.cursors.items c.in_ok-cursors.ensures

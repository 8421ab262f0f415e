use Rattle.region_machine.proofs.NextTurns.{next_turn_law}
use Rattle.region_machine.proofs.laws.monitors_tell_the_next_turn.Goals as goal

pub returns : goal.returns
returns c = next_turn_law

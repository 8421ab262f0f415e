use Rattle.rv32im_machine.proofs.Steps.{stands_in}
use Rattle.rv32im_machine.proofs.laws.ended_machines_stand_still.Goals as goal

pub returns : goal.returns
returns c state ended = stands_in state.control.mode state ended

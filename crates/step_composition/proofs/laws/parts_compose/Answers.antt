use Rattle.step_composition.proofs.Composing.{composing_in}
use Rattle.step_composition.proofs.Slots.{passing_in}
use Rattle.step_composition.proofs.laws.parts_compose.Goals as goal

pub returns-clause-parts : goal.returns-clause-parts
returns-clause-parts c state ran = composing_in state.control.mode state ran

pub returns-clause-slots : goal.returns-clause-slots
returns-clause-slots c state ran = passing_in state.control.mode state ran

-- The turns of a guest are as is asked of them.
use Rattle.rv32im_machine.specs.State.{State}
use Rattle.rv32im_machine.specs.Rows.{running}
use Rattle.acceptance_law.specs.Inputs.{IsProperGuest, IsProper}

-- the turn of each instruction is proper
abbrev pub ProperTurnsLaw : Type 0
ProperTurnsLaw =
    (state : State) → IsProperGuest state →
    IsProper state.setting.base state.control.region (running state.setting state.control)

-- Laws of the parts of a step.
use Rattle.std.specs.Prelude.{◌≡◌}
use Rattle.rv32im_machine.specs.declared.stepping.Stepped.TheVariants.{Ran}
use Rattle.rv32im_machine.specs.Folds.{Step, Visits}
use Rattle.rv32im_machine.specs.State.{State}
use Rattle.step_composition.specs.Composed.{composed}
use Rattle.step_composition.specs.Slots.{composed_visits}

-- the step of a machine that runs is what its parts make together: the fetch, the uses, the address, the load or the
-- check of the store, the result, the decision, the plan of a call, and the changes that methods of the machine make
abbrev pub PartsLaw : Type 0
PartsLaw = (state : State) → state.control.mode ≡ Ran → Step state ≡ composed state

-- its turn passes its slots in order, with the values of the parts, an instruction's as a call's
abbrev pub SlotsLaw : Type 0
SlotsLaw = (state : State) → state.control.mode ≡ Ran → Visits state ≡ composed_visits state

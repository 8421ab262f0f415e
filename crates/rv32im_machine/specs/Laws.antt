-- Laws of the turns.
use Rattle.std.specs.Prelude.{◌≡◌, ◌≢◌, ℕ, ◌<◌, length, map, slice_index_or, take}
use Rattle.rv32im_machine.specs.declared.stepping.Stepped.TheVariants.{Ran}
use Rattle.rv32im_machine.specs.Folds.{Ending, Next, Passing, Step, Visit, Visits}
use Rattle.rv32im_machine.specs.State.{State}

-- where each value of a turn has gone on as it is, Next answers the end that Step reaches
abbrev pub NextLaw : Type 0
NextLaw = (state : State) → Next state (map (λ visit. visit.value) (Visits state)) ≡ Ending (Step state)

-- where the values of so many visits have gone on as they are, Next answers the visit after them
abbrev pub VisitLaw : Type 0
VisitLaw = (state : State) (count : ℕ) (other : Visit) → count < length (Visits state) →
    Next state (map (λ visit. visit.value) (take count (Visits state))) ≡ Passing (slice_index_or (Visits state) count other)

-- a machine that has exited or is stopped stands still
abbrev pub StandsLaw : Type 0
StandsLaw = (state : State) → state.control.mode ≢ Ran → Step state ≡ state

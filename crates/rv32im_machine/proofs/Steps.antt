-- The step, and what comes next, read off a walk.
use Rattle.std.proofs.Common.{◌≡◌, ◌≢◌, ℕ, zero, suc, ◌<◌, arith, length, map, refl, take}
use Rattle.std.specs.Prelude.{slice_index_or}
use Rattle.rv32im_machine.specs.declared.stepping.Stepped.{Stepped}
use Rattle.rv32im_machine.specs.declared.stepping.Stepped.TheVariants.{Ran, Exited, Stopped}
use Rattle.rv32im_machine.specs.Folds.{Ending, Passing, Visit, coming, real_end, visits_in}
use Rattle.rv32im_machine.specs.Language.{Walk, Looked, Passed, Moved, Saved, Restored, Ended, none_held, walk, walked}
use Rattle.rv32im_machine.specs.Rows.{turn_in}
use Rattle.rv32im_machine.specs.State.{State}

-- the values that a walk passes lead to its end
pub coming_end : (walk : Walk) → coming walk (map (λ visit. visit.value) (visits_in walk)) ≡ Ending (real_end walk)
unfolding coming real_end visits_in
coming_end (Looked seen value walk) = coming_end walk
coming_end (Passed passing go) = coming_end (go passing.value)
coming_end (Moved place shape source value walk) = coming_end walk
coming_end (Saved walk) = coming_end walk
coming_end (Restored registers walk replayed) = coming_end walk
coming_end (Ended state) = refl

-- the values before a visit lead to it
pub coming_visit : (walk : Walk) (count : ℕ) (other : Visit) → count < length (visits_in walk)
    → coming walk (map (λ visit. visit.value) (take count (visits_in walk))) ≡ Passing (slice_index_or (visits_in walk) count other)
unfolding coming visits_in
coming_visit (Looked seen value walk) count other below = coming_visit walk count other below
coming_visit (Passed passing go) zero other below = refl
coming_visit (Passed passing go) (suc count) other below = coming_visit (go passing.value) count other (omega arith)
coming_visit (Moved place shape source value walk) count other below = coming_visit walk count other below
coming_visit (Saved walk) count other below = coming_visit walk count other below
coming_visit (Restored registers walk replayed) count other below = coming_visit walk count other below
coming_visit (Ended state) count other below = absurd (omega arith)

pub stands_in : (mode : Stepped) (state : State) → mode ≢ Ran
    → real_end (walk state (turn_in mode state.setting state.control) state.store none_held) ≡ state
unfolding real_end walked
stands_in Ran state ended = absurd (ended refl)
stands_in (Exited status) state ended = refl
stands_in (Stopped fault) state ended = refl

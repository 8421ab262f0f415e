-- What is read off a turn: the next passing, the step, the visits; and the real run.
use Rattle.std.specs.Prelude.{◌≡◌, ℕ, List, [], ◌∷◌, refl}
use Rattle.flow_base.specs.declared.points.Point.{Point}
use Rattle.rv32im_machine.specs.State.{State}
use Rattle.rv32im_machine.specs.Language.{Walk, Looked, Passed, Moved, Saved, Restored, Ended}
use Rattle.rv32im_machine.specs.Rows.{walk_of}

-- a value that passes a point
pub record Visit : Type 0 where
  pub point : Point
  pub value : ℕ

-- what comes next in a turn: a passing, or the end with the state that it reaches
pub data Coming : Type 0 where
  Passing : Visit → Coming
  Ending : State → Coming

-- after these values have gone on from the passings of the turn so far
unfoldable pub coming : Walk → List ℕ → Coming
coming (Looked seen value walk) given = coming walk given
coming (Passed passing go) [] = Passing (record { point = passing.point; value = passing.value })
coming (Passed passing go) (other ∷ given) = coming (go other) given
coming (Moved place shape source value walk) given = coming walk given
coming (Saved walk) given = coming walk given
coming (Restored registers walk replayed) given = coming walk given
coming (Ended state) given = Ending state

-- Next: the passing that comes next in the turn of a state, or its end
abbrev pub Next : State → List ℕ → Coming
Next state given = coming (walk_of state) given

-- the end of a turn in which every value goes on as it is
unfoldable pub real_end : Walk → State
real_end (Looked seen value walk) = real_end walk
real_end (Passed passing go) = real_end (go passing.value)
real_end (Moved place shape source value walk) = real_end walk
real_end (Saved walk) = real_end walk
real_end (Restored registers walk replayed) = real_end walk
real_end (Ended state) = state

-- Step: one turn of the real run
abbrev pub Step : State → State
Step state = real_end (walk_of state)

-- the points that a turn passes, with their values, where every value goes on as it is
unfoldable pub visits_in : Walk → List Visit
visits_in (Looked seen value walk) = visits_in walk
visits_in (Passed passing go) =
    record { point = passing.point; value = passing.value } ∷ visits_in (go passing.value)
visits_in (Moved place shape source value walk) = visits_in walk
visits_in (Saved walk) = visits_in walk
visits_in (Restored registers walk replayed) = visits_in walk
visits_in (Ended state) = []

-- Visits: the points that the turn of a state passes, with their values
abbrev pub Visits : State → List Visit
Visits state = visits_in (walk_of state)

-- at its end a turn has reached its state
pub real_Ended : (state : State) → real_end (Ended state) ≡ state
unfolding real_end
real_Ended state = refl

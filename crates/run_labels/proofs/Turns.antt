-- What is shown of runs with labels turn by turn.
use Rattle.std.specs.Prelude.{[], ◌∷◌, refl}
use Rattle.std.proofs.Common.{ap}
use Rattle.region_machine.specs.Runs.{real_turn, Real}
use Rattle.run_labels.specs.Laws.{PlaceLaw, BeginningsLaw}
use Rattle.run_labels.specs.Runs.{enclosing, run_after, EachRunAnswer, IsUnrefused}

pub place_law : PlaceLaw
unfolding run_after Real
place_law regions [] start = refl
place_law regions (answers ∷ earlier) start =
    ap (λ place. real_turn (enclosing regions) place) (place_law regions earlier start)

pub beginnings_law : BeginningsLaw
unfolding IsUnrefused EachRunAnswer
beginnings_law table regions last answers start unrefused sound by_table = (unrefused.0, sound.0, by_table.0)

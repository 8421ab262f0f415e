use Rattle.std.proofs.Common.{◌≡◌, ◌++◌, map, take, drop}
use Rattle.every_secret.specs.Private.OpenPlaces.{with_sum}
use Rattle.every_secret.proofs.open_places.add_to_all.Given as goal

abbrev pub invariant-loop-place : goal.invariant-loop-place
invariant-loop-place l =
    l.place-items
    ≡ map (with_sum l.sum) (take l.place-index l.initial.place-items) ++ drop l.place-index l.initial.place-items

-- The crossing bits of a real run: visit by visit the bits of the values under the masks. No replay occurs in them.
use Rattle.std.specs.Prelude.{ℕ, zero, suc, List, [], ◌∷◌, ◌++◌, Bool, true, false, Option, Some, None}
use Rattle.flow_base.specs.declared.points.Point.{Point}
use Rattle.flow_base.specs.Words.{bits_under}
use Rattle.rv32im_machine.specs.Language.{Walk, Looked, Passed, Moved, Saved, Restored, Ended}
use Rattle.enclosure_regions.specs.declared.break_kinds.Break.{Break}
use Rattle.region_machine.specs.Enclosures.{Enclosures, is_enclosed}
use Rattle.region_machine.specs.Guests.{guest_walk}
use Rattle.region_machine.specs.Runs.{Place, Real}
use Rattle.replay_machine.specs.Runs.{Masks, mask_at}

-- the bits of the values of a turn under the masks, visit by visit, lowest bit first
unfoldable pub crossing : Masks → List Point → Walk → List Bool
crossing masks past (Looked seen value walk) = crossing masks past walk
crossing masks past (Passed passing go) =
    bits_under passing.value (mask_at masks past passing.point) ++ crossing masks (passing.point ∷ past) (go passing.value)
crossing masks past (Moved place shape source value walk) = crossing masks past walk
crossing masks past (Saved walk) = crossing masks past walk
crossing masks past (Restored registers walk replayed) = crossing masks past walk
crossing masks past (Ended state) = []

-- the entry of a skipped region and the turns inside it give none
abbrev pub crossing_unless : Bool → Masks → List Point → Walk → List Bool
crossing_unless true masks past walk = []
crossing_unless false masks past walk = crossing masks past walk

-- and so does a run that a break has ended
abbrev pub crossing_unbroken : Option Break → Enclosures → Masks → Place → List Bool
crossing_unbroken None enclosures masks place =
    crossing_unless (is_enclosed enclosures place.state.control) masks place.past
    (guest_walk enclosures.regions place.state)
crossing_unbroken (Some broken) enclosures masks place = []

abbrev pub crossing_of : Enclosures → Masks → Place → List Bool
crossing_of enclosures masks place = crossing_unbroken place.broken enclosures masks place

-- the crossing bits of so many turns of the real run
unfoldable pub cross_after : Enclosures → Masks → ℕ → Place → List Bool
cross_after enclosures masks zero place = []
cross_after enclosures masks (suc turns) place =
    cross_after enclosures masks turns place ++ crossing_of enclosures masks (Real enclosures turns place)

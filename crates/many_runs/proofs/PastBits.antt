-- How many bits cross in a run, by the points that it has passed.
use Rattle.std.proofs.Common.{◌≡◌, ℕ, zero, suc, ◌+◌, ◌++◌, ◌∷◌, [], Bool, true, false, List, length, refl, sym, ap, ◌∙◌, arith}
use Rattle.std.proofs.Common.{length-append, Option, Some, None}
use Rattle.flow_base.specs.declared.points.Point.{Point}
use Rattle.flow_base.specs.Words.{bit_count, bits_under}
use Rattle.crossing_bits.proofs.Places.{length_bits_under}
use Rattle.enclosure_regions.specs.declared.break_kinds.Break.{Break}
use Rattle.lockstep_replay.specs.Crossing.{cross_after, crossing, crossing_of, crossing_unbroken, crossing_unless}
use Rattle.region_machine.specs.Enclosures.{Enclosures, is_enclosed}
use Rattle.region_machine.specs.Guests.{guest_walk}
use Rattle.region_machine.specs.Runs.{Place, passed, Real, turn_unless, visited}
use Rattle.replay_machine.specs.Runs.{Masks, mask_at}
use Rattle.rv32im_machine.specs.Language.{Walk, Looked, Passed, Moved, Saved, Restored, Ended}

-- the bits of the masks at these passings, the latest first
pub past_bits : Masks → List Point → ℕ
past_bits masks [] = 0
past_bits masks (point ∷ past) = bit_count (mask_at masks past point) + past_bits masks past

pub past_none : (masks : Masks) → past_bits masks [] ≡ 0
unfolding past_bits
past_none masks = refl

pub past_more : (masks : Masks) (point : Point) (past : List Point) →
    past_bits masks (point ∷ past) ≡ bit_count (mask_at masks past point) + past_bits masks past
unfolding past_bits
past_more masks point past = refl

-- ---- one turn

walk_bits : (masks : Masks) (past : List Point) (walk : Walk) →
    length (crossing masks past walk) + past_bits masks past ≡ past_bits masks (passed past walk)
unfolding crossing passed past_bits
walk_bits masks past (Looked seen value walk) = walk_bits masks past walk
walk_bits masks past (Passed passing go) =
    let rest = walk_bits masks (passing.point ∷ past) (go passing.value) in
    let here : length (bits_under passing.value (mask_at masks past passing.point))
    ≡ bit_count (mask_at masks past passing.point) =
    length_bits_under passing.value (mask_at masks past passing.point) in
    let both : length (bits_under passing.value (mask_at masks past passing.point)
    ++ crossing masks (passing.point ∷ past) (go passing.value))
    ≡ length (bits_under passing.value (mask_at masks past passing.point))
    + length (crossing masks (passing.point ∷ past) (go passing.value)) =
    length-append (bits_under passing.value (mask_at masks past passing.point))
    (crossing masks (passing.point ∷ past) (go passing.value)) in
    omega (arith, rest, here, both)
walk_bits masks past (Moved place shape source value walk) = walk_bits masks past walk
walk_bits masks past (Saved walk) = walk_bits masks past walk
walk_bits masks past (Restored registers walk replayed) = walk_bits masks past walk
walk_bits masks past (Ended state) = omega arith

unless_bits : (enclosed : Bool) (masks : Masks) (past : List Point) (walk : Walk) →
    length (crossing_unless enclosed masks past walk) + past_bits masks past
    ≡ past_bits masks (visited enclosed past walk)
unless_bits true masks past walk = omega arith
unless_bits false masks past walk = walk_bits masks past walk

turn_bits : (broken : Option Break) (enclosures : Enclosures) (masks : Masks) (place : Place) →
    length (crossing_unbroken broken enclosures masks place) + past_bits masks place.past
    ≡ past_bits masks (turn_unless broken enclosures place).past
turn_bits None enclosures masks place =
    unless_bits (is_enclosed enclosures place.state.control) masks place.past
    (guest_walk enclosures.regions place.state)
turn_bits (Some broken) enclosures masks place = omega arith

-- ---- so many turns

pub cross_bits : (enclosures : Enclosures) (masks : Masks) (turns : ℕ) (start : Place) → start.past ≡ [] →
    length (cross_after enclosures masks turns start) ≡ past_bits masks (Real enclosures turns start).past
unfolding cross_after Real
cross_bits enclosures masks zero start none = sym (ap (λ past. past_bits masks past) none ∙ past_none masks)
cross_bits enclosures masks (suc turns) start none =
    let place = Real enclosures turns start in
    let before = cross_bits enclosures masks turns start none in
    let turn = turn_bits place.broken enclosures masks place in
    let both : length (cross_after enclosures masks turns start ++ crossing_of enclosures masks place)
    ≡ length (cross_after enclosures masks turns start) + length (crossing_of enclosures masks place) =
    length-append (cross_after enclosures masks turns start) (crossing_of enclosures masks place) in
    omega (arith, before, turn, both)

-- The real run, and the replay of a string: both are read off the same turns, for any regions and any masks.
use Rattle.std.specs.Prelude.{ℕ, zero, suc, List, [], ◌∷◌, Option, Some, None, if◌then◌else◌}
use Rattle.flow_base.specs.declared.points.Point.{Point}
use Rattle.flow_base.specs.Words.{bit_count, patched}
use Rattle.crossing_bits.specs.Askers.{Asker, Asks, Over, then_ask}
use Rattle.flow_base.specs.PointOrders.{is_same}
use Rattle.rv32im_machine.specs.State.{State}
use Rattle.rv32im_machine.specs.Language.{Walk, Looked, Passed, Moved, Saved, Restored, Ended}
use Rattle.region_machine.specs.Enclosures.{Enclosures}
use Rattle.replay_machine.specs.ReplayTurns.{replay_walk}
use Rattle.replay_machine.specs.ReplayTurns.{Outside, range_outside}

-- a state of the replay, the points that it has passed so far, and the range that ended it, if one did
pub record ReplayPlace : Type 0 where
  pub state : State
  pub past : List Point
  pub outside : Option Outside

abbrev pub replay_fresh : State → ReplayPlace
replay_fresh state = record { state = state; past = []; outside = None }

-- the mask at each visit of each point; visits of one point are counted from 1
abbrev pub Masks : Type 0
Masks = Point → ℕ → ℕ

-- how often a point has been passed
abbrev pub times_passed : Point → List Point → ℕ
times_passed point [] = 0
times_passed point (other ∷ past) =
    if is_same point other then suc (times_passed point past) else times_passed point past

-- the mask at the next visit of a point
abbrev pub mask_at : Masks → List Point → Point → ℕ
mask_at masks past point = masks point (suc (times_passed point past))

-- ---- the replay

-- a turn in which at each visit the bits of the value under the mask are replaced by the next bits of a string, lowest
-- first, and that value goes on; at a leave the kept registers are put back
unfoldable pub replayed : Masks → List Point → Walk → Asker ReplayPlace
replayed masks past (Looked seen value walk) = replayed masks past walk
replayed masks past (Passed passing go) =
    Asks (bit_count (mask_at masks past passing.point))
    (λ bits. replayed masks (passing.point ∷ past) (go (patched passing.value (mask_at masks past passing.point) bits)))
replayed masks past (Moved place shape source value walk) = replayed masks past walk
replayed masks past (Saved walk) = replayed masks past walk
replayed masks past (Restored registers walk back) = replayed masks past back
replayed masks past (Ended state) = Over (record { state = state; past = past; outside = None })

-- a turn of a replay, where no range is outside of guest memory
abbrev pub replay_inside : Option Outside → Enclosures → Masks → ReplayPlace → Asker ReplayPlace
replay_inside None enclosures masks place = replayed masks place.past (replay_walk enclosures place.state)
replay_inside (Some outside) enclosures masks place =
    Over (record { state = place.state; past = place.past; outside = Some outside })

abbrev pub replay_unless : Option Outside → Enclosures → Masks → ReplayPlace → Asker ReplayPlace
replay_unless None enclosures masks place =
    replay_inside (range_outside enclosures.regions place.state) enclosures masks place
replay_unless (Some outside) enclosures masks place = Over place

-- a replay that was ended by a range stands still
abbrev pub replay_turn : Enclosures → Masks → ReplayPlace → Asker ReplayPlace
replay_turn enclosures masks place = replay_unless place.outside enclosures masks place

-- Replay: so many turns of a run that asks for the bits of a string
unfoldable pub Replay : Enclosures → Masks → ℕ → ReplayPlace → Asker ReplayPlace
Replay enclosures masks zero place = Over place
Replay enclosures masks (suc turns) place =
    then_ask (Replay enclosures masks turns place) (replay_turn enclosures masks)

-- What is so at each end of a turn is so where a replay of it has come to: its output only grows, and it can leave the
-- region that it is in.
use Rattle.std.proofs.Common.{◌≡◌, ℕ, List, ◌∷◌, ◌++◌, take, drop, ap, refl, subst}
use Rattle.std.proofs.Common.{Bool, true, Option, Some, None}
use Rattle.flow_base.specs.declared.points.Point.{Point}
use Rattle.flow_base.specs.Words.{bit_count, patched}
use Rattle.crossing_bits.specs.Askers.{Fed', feed}
use Rattle.rv32im_machine.specs.State.{State}
use Rattle.rv32im_machine.specs.Language.{Walk, Looked, Passed, Moved, Saved, Restored, Ended}
use Rattle.enclosure_regions.specs.declared.region_parts.Region.{Region}
use Rattle.enclosure_regions.specs.Regions.{are_regions}
use Rattle.region_machine.specs.Enclosures.{Enclosures, Kind, Enters, Leaves, Steps, is_skipped, kind_of}
use Rattle.region_machine.specs.Within.{can_skip, may_leave}
use Rattle.region_machine.proofs.CarriedToEnds.{AtEnds}
use Rattle.region_machine.proofs.OutputGrows.{EndsLonger, either_walk, entry_extends, leave_extends, skip_extends}
use Rattle.region_machine.proofs.OutputGrows.{step_extends}
use Rattle.region_machine.proofs.RangesStayInside.{CanGoOn, inside_at_entry, kind_keeps, leave_keeps, skip_keeps}
use Rattle.region_machine.proofs.RangesStayInside.{step_keeps}
use Rattle.replay_machine.specs.ReplayTurns.{kind_outside_range, outside_of, range_outside}
use Rattle.replay_machine.specs.ReplayTurns.{replay_kind_walk, replay_walk}
use Rattle.replay_machine.specs.Runs.{ReplayPlace, Masks, mask_at, replayed}
use Rattle.replay_machine.proofs.FedAskersSplit.{feed_back}

pub replayed_at_end :
    (P : State → Type 0) (masks : Masks) (past : List Point) (walk : Walk) (bits : List Bool) (place : ReplayPlace)
    (rest : List Bool) →
    AtEnds P walk → feed (replayed masks past walk) bits ≡ Fed' place rest → P place.state
unfolding replayed
replayed_at_end P masks past (Looked seen value walk) bits place rest h e =
    replayed_at_end P masks past walk bits place rest h e
replayed_at_end P masks past (Passed passing go) bits place rest h e =
    replayed_at_end P masks (passing.point ∷ past) (go (patched passing.value (mask_at masks past passing.point)
    (take (bit_count (mask_at masks past passing.point)) bits)))
    (drop (bit_count (mask_at masks past passing.point)) bits) place rest (h _)
    (feed_back (bit_count (mask_at masks past passing.point)) (λ taken. replayed masks (passing.point ∷ past)
    (go (patched passing.value (mask_at masks past passing.point) taken))) bits place rest e)
replayed_at_end P masks past (Moved to shape source value walk) bits place rest h e =
    replayed_at_end P masks past walk bits place rest h e
replayed_at_end P masks past (Saved walk) bits place rest h e =
    replayed_at_end P masks past walk bits place rest h e
replayed_at_end P masks past (Restored registers walk back) bits place rest h e =
    replayed_at_end P masks past back bits place rest h.1 e
replayed_at_end P masks past (Ended state) bits place rest h e =
    let same : Fed' (record { state = state; past = past; outside = None }) bits ≡ Fed' place rest = e in
    let there : (record { state = state; past = past; outside = None }) ≡ place = cc in
    subst P (ap (λ (p : ReplayPlace). p.state) there) h

-- ---- the output

pub replay_kind_extends : (enclosures : Enclosures) (kind : Kind) (state : State) →
    AtEnds (EndsLonger state.control.output) (replay_kind_walk enclosures kind state)
replay_kind_extends enclosures (Enters region) state =
    either_walk (EndsLonger state.control.output) (is_skipped enclosures region) _ _ (skip_extends state region)
    (entry_extends state region)
replay_kind_extends enclosures (Leaves region) state = leave_extends state region
replay_kind_extends enclosures (Steps region) state = step_extends state

-- a turn of the replay
pub replay_grows :
    (enclosures : Enclosures) (masks : Masks) (past : List Point) (state : State) (bits : List Bool)
    (place : ReplayPlace) (rest : List Bool) →
    feed (replayed masks past (replay_walk enclosures state)) bits ≡ Fed' place rest →
    (more : List ℕ) × (place.state.control.output ≡ state.control.output ++ more)
replay_grows enclosures masks past state bits place rest e =
    replayed_at_end (EndsLonger state.control.output) masks past (replay_walk enclosures state) bits place rest
    (replay_kind_extends enclosures (kind_of enclosures.regions state.control) state) e

-- ---- the ranges

none_outside : (region : Region) (range : Option ℕ) → outside_of region range ≡ None → range ≡ None
none_outside region None e = refl
none_outside region (Some range) e = absurd (cc)

pub kind_inside : (kind : Kind) (state : State) → kind_outside_range kind state ≡ None →
    can_skip kind state.store.registers state.setting.base ≡ true
kind_inside (Enters region) state e =
    inside_at_entry region state.store.registers state.setting.base (none_outside region _ e)
kind_inside (Leaves region) state e = refl
kind_inside (Steps region) state e = refl

pub replay_kind_keeps : (enclosures : Enclosures) (kind : Kind) (state : State) →
    are_regions enclosures.regions ≡ true →
    CanGoOn enclosures.regions state → kind_of enclosures.regions state.control ≡ kind →
    can_skip kind state.store.registers state.setting.base ≡ true →
    AtEnds (CanGoOn enclosures.regions) (replay_kind_walk enclosures kind state)
replay_kind_keeps enclosures (Enters region) state rules h is inside =
    either_walk (CanGoOn enclosures.regions) (is_skipped enclosures region) _ _
    (skip_keeps enclosures.regions state region h)
    (kind_keeps enclosures.regions (Enters region) state rules h is inside)
replay_kind_keeps enclosures (Leaves region) state rules h is inside = leave_keeps enclosures.regions state region
replay_kind_keeps enclosures (Steps region) state rules h is inside = step_keeps enclosures.regions state h

pub replay_keeps : (enclosures : Enclosures) (state : State) → are_regions enclosures.regions ≡ true →
    may_leave enclosures.regions state ≡ true → range_outside enclosures.regions state ≡ None →
    AtEnds (CanGoOn enclosures.regions) (replay_walk enclosures state)
replay_keeps enclosures state rules h inside =
    replay_kind_keeps enclosures (kind_of enclosures.regions state.control) state rules h refl
    (kind_inside (kind_of enclosures.regions state.control) state inside)

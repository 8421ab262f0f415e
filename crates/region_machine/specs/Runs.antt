-- The real run of a guest with regions, turn by turn.
use Rattle.std.specs.Prelude.{ℕ, zero, suc, List, [], ◌∷◌, Bool, true, false, Option, Some, None, if◌then◌else◌}
use Rattle.flow_base.specs.declared.points.Point.{Point}
use Rattle.rv32im_machine.specs.declared.stepping.Stepped.{Stepped}
use Rattle.rv32im_machine.specs.declared.stepping.Stepped.TheVariants.{Ran, Exited, Stopped}
use Rattle.rv32im_machine.specs.State.{State}
use Rattle.rv32im_machine.specs.Language.{Walk, Looked, Passed, Moved, Saved, Restored, Ended}
use Rattle.rv32im_machine.specs.Folds.{real_end}
use Rattle.enclosure_regions.specs.declared.break_kinds.Break.{Break}
use Rattle.region_machine.specs.Enclosures.{Enclosures, is_enclosed}
use Rattle.region_machine.specs.Guests.{guest_walk}
use Rattle.region_machine.specs.Breaking.{Breaks}

-- a state of the real run, the points that the run has passed so far, the latest first, and the break of a region that
-- ended the run, if one did
pub record Place : Type 0 where
  pub state : State
  pub past : List Point
  pub broken : Option Break

abbrev pub fresh : State → Place
fresh state = record { state = state; past = []; broken = None }

abbrev pub has_exited : Stepped → Bool
has_exited Ran = false
has_exited (Exited status) = true
has_exited (Stopped fault) = false

-- the points that have been passed after a turn in which every value goes on as it is
unfoldable pub passed : List Point → Walk → List Point
passed past (Looked seen value walk) = passed past walk
passed past (Passed passing go) = passed (passing.point ∷ past) (go passing.value)
passed past (Moved place shape source value walk) = passed past walk
passed past (Saved walk) = passed past walk
passed past (Restored registers walk replayed) = passed past walk
passed past (Ended state) = past

-- the points inside a skipped region are never visited
abbrev pub visited : Bool → List Point → Walk → List Point
visited true past walk = past
visited false past walk = passed past walk

-- a turn of a run that no break has ended
abbrev pub unbroken_turn : Enclosures → Place → Place
unbroken_turn enclosures place = record {
  state = real_end (guest_walk enclosures.regions place.state);
  past = visited (is_enclosed enclosures place.state.control) place.past (guest_walk enclosures.regions place.state);
  broken = Breaks enclosures.regions place.state;
}

abbrev pub turn_unless : Option Break → Enclosures → Place → Place
turn_unless None enclosures place = unbroken_turn enclosures place
turn_unless (Some broken) enclosures place = place

-- a run that broke a region stands still
abbrev pub real_turn : Enclosures → Place → Place
real_turn enclosures place = turn_unless place.broken enclosures place

-- Real: the real run after so many turns
unfoldable pub Real : Enclosures → ℕ → Place → Place
Real enclosures zero place = place
Real enclosures (suc turns) place = real_turn enclosures (Real enclosures turns place)

-- How many common turns so many turns of the real run are: each turn is one, but a skipped region's entry and the turns
-- inside it belong to the common turn of its leave.
unfoldable pub common_turns : Enclosures → ℕ → Place → ℕ
common_turns enclosures zero place = zero
common_turns enclosures (suc turns) place =
    if is_enclosed enclosures (Real enclosures turns place).state.control
    then common_turns enclosures turns place else suc (common_turns enclosures turns place)

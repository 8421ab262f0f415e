-- A replay that a range has ended, or that has exited or is stopped, stands still.
use Rattle.std.proofs.Common.{◌≡◌, ℕ, ◌<◌, ◌^◌, refl, sym, ap, subst, ◌∙◌, arith, inl, inr, ◌⊎◌, List}
use Rattle.std.proofs.Common.{Option, Some, None}
use Rattle.crossing_bits.specs.Askers.{Asker, Over, feed}
use Rattle.crossing_bits.specs.Strings.{Stream, left_of}
use Rattle.rv32im_machine.specs.declared.stepping.Stepped.{Stepped}
use Rattle.rv32im_machine.specs.State.{State}
use Rattle.rv32im_machine.specs.Language.{Ended}
use Rattle.enclosure_regions.specs.declared.region_parts.Region.{Region}
use Rattle.replay_machine.specs.declared.turns.ReplayTurn.{ReplayTurn}
use Rattle.region_machine.specs.Enclosures.{Enclosures, Kind}
use Rattle.region_machine.proofs.Stillness.{IsOver, still_kind, still_walk}
use Rattle.replay_machine.specs.ReplayTurns.{replay_kind_walk, replay_walk}
use Rattle.replay_machine.specs.ReplayTurns.{Outside, kind_outside_range, range_outside}
use Rattle.replay_machine.specs.Standing.{Standing, Stands, Turned, end_answer, mode_answer, taken_after}
use Rattle.replay_machine.specs.Runs.{ReplayPlace, Masks, replayed, replay_turn}

pub still_guest_replay : (enclosures : Enclosures) (state : State) → IsOver state.control.mode →
    replay_walk enclosures state ≡ Ended state
still_guest_replay enclosures state h =
    ap (λ (k : Kind). replay_kind_walk enclosures k state) (still_kind enclosures.regions state.control h)
    ∙ still_walk state h

still_inside : (regions : List Region) (state : State) → IsOver state.control.mode → range_outside regions state ≡ None
still_inside regions state h =
    ap (λ (k : Kind). kind_outside_range k state) (still_kind regions state.control h)

replayed_still : (enclosures : Enclosures) (masks : Masks) (place : ReplayPlace) → place.outside ≡ None →
    replayed masks place.past (Ended place.state) ≡ Over place
unfolding replayed
replayed_still enclosures masks place inside =
    ap (λ (o : Option Outside). Over (record { state = place.state; past = place.past; outside = o })) (sym inside)

-- a turn where no range is outside is that of the walk
pub replay_walks : (enclosures : Enclosures) (masks : Masks) (place : ReplayPlace) → place.outside ≡ None →
    range_outside enclosures.regions place.state ≡ None →
    replay_turn enclosures masks place ≡ replayed masks place.past (replay_walk enclosures place.state)
replay_walks enclosures masks place inside within = rw (inside, within) refl

pub replay_ends : (enclosures : Enclosures) (masks : Masks) (place : ReplayPlace) (outside : Outside) →
    place.outside ≡ None → range_outside enclosures.regions place.state ≡ Some outside →
    replay_turn enclosures masks place
    ≡ Over (record { state = place.state; past = place.past; outside = Some outside })
replay_ends enclosures masks place outside inside is = rw (inside, is) refl

pub still_outside : (enclosures : Enclosures) (masks : Masks) (place : ReplayPlace) (outside : Outside) →
    place.outside ≡ Some outside → replay_turn enclosures masks place ≡ Over place
still_outside enclosures masks place outside is = rw is refl

pub still_replay : (enclosures : Enclosures) (masks : Masks) (place : ReplayPlace) → place.outside ≡ None →
    IsOver place.state.control.mode → replay_turn enclosures masks place ≡ Over place
still_replay enclosures masks place inside h =
    replay_walks enclosures masks place inside (still_inside enclosures.regions place.state h)
    ∙ ap (λ w. replayed masks place.past w) (still_guest_replay enclosures place.state h)
    ∙ replayed_still enclosures masks place inside

pub none_or : {A : Type 0} (found : Option A) → (found ≡ None) ⊎ (found ≡ None → ⊥)
none_or None = inl refl
none_or (Some value) = inr (λ none. absurd (cc))

-- ---- a call that changes nothing

over_turn : (asker : Asker ReplayPlace) (masks : Masks) (place : ReplayPlace) (standing : Standing) (stream : Stream)
    (answer : ReplayTurn) → asker ≡ Over place → Stands standing masks place →
    answer ≡ end_answer place.outside place.state.control.mode →
    Turned masks (feed asker (left_of stream)) standing stream answer
over_turn asker masks place standing stream answer is stands answers =
    rw is (record { answers = answers; stands = stands; left = refl })

pub ended_turn : (enclosures : Enclosures) (masks : Masks) (place : ReplayPlace) (standing : Standing) (stream : Stream)
    (mode : Stepped) (answer : ReplayTurn) →
    Stands standing masks place → standing.outside ≡ None → mode ≡ standing.state.control.mode → IsOver mode →
    answer ≡ mode_answer mode →
    Turned masks (feed (replay_turn enclosures masks place) (left_of stream)) standing stream answer
ended_turn enclosures masks place standing stream mode answer stands inside is over answers =
    let same : mode ≡ place.state.control.mode = is ∙ ap (λ (s : State). s.control.mode) (sym stands.state) in
    let within : place.outside ≡ None = stands.outside ∙ inside in
    over_turn (replay_turn enclosures masks place) masks place standing stream answer
    (still_replay enclosures masks place within (subst IsOver same over)) stands
    (rw within (answers ∙ ap mode_answer same))

pub outside_turn : (enclosures : Enclosures) (masks : Masks) (place : ReplayPlace) (standing : Standing)
    (stream : Stream) (outside : Outside) (answer : ReplayTurn) →
    Stands standing masks place → standing.outside ≡ Some outside →
    answer ≡ ReplayTurn.RangeOutside outside.region outside.range →
    Turned masks (feed (replay_turn enclosures masks place) (left_of stream)) standing stream answer
outside_turn enclosures masks place standing stream outside answer stands is answers =
    let there : place.outside ≡ Some outside = stands.outside ∙ is in
    over_turn (replay_turn enclosures masks place) masks place standing stream answer
    (still_outside enclosures masks place outside there) stands (rw there answers)

pub taken_same : (taken held : ℕ) (stream : Stream) → held ≡ taken → held < 2 ^ 64 →
    taken ≡ taken_after taken stream stream
taken_same taken held stream is small = omega (arith, is, small)

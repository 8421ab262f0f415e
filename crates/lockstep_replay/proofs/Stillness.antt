-- A run that has exited, is stopped or broke a region stands still, and so does a replay that has ended.
use Rattle.std.proofs.Common.{◌≡◌, ℕ, zero, suc, ◌≤◌, inl, inr, List, [], ◌++◌, refl, sym, ap, ◌∙◌, append-nil, Bool}
use Rattle.std.proofs.Common.{true, false, Option, Some, None, arith}
use Rattle.flow_base.specs.declared.points.Point.{Point}
use Rattle.crossing_bits.specs.Askers.{Fed', feed}
use Rattle.crossing_bits.proofs.Feeding.{le_or_lt, feed_then}
use Rattle.rv32im_machine.specs.State.{State}
use Rattle.rv32im_machine.specs.Language.{Ended}
use Rattle.rv32im_machine.specs.Folds.{real_end}
use Rattle.enclosure_regions.specs.declared.break_kinds.Break.{Break}
use Rattle.region_machine.specs.Enclosures.{Enclosures, is_enclosed}
use Rattle.region_machine.specs.Guests.{guest_walk}
use Rattle.region_machine.specs.Breaking.{Breaks, kind_break}
use Rattle.region_machine.specs.Runs.{Place, passed, visited, turn_unless, real_turn, Real}
use Rattle.replay_machine.specs.Runs.{ReplayPlace, Masks}
use Rattle.replay_machine.specs.Runs.{replay_turn, Replay}
use Rattle.region_machine.proofs.Stillness.{IsOver, still_kind, still_guest}
use Rattle.replay_machine.proofs.Stillness.{still_replay}
use Rattle.lockstep_replay.specs.Crossing.{crossing, crossing_unless, crossing_unbroken, crossing_of, cross_after}

-- ---- a guest that has ended

still_breaks : (enclosures : Enclosures) (state : State) → IsOver state.control.mode →
    Breaks enclosures.regions state ≡ None
still_breaks enclosures state h = ap (λ k. kind_break k state) (still_kind enclosures.regions state.control h)

still_end : (enclosures : Enclosures) (state : State) → IsOver state.control.mode →
    real_end (guest_walk enclosures.regions state) ≡ state
unfolding real_end
still_end enclosures state h = ap (λ w. real_end w) (still_guest enclosures.regions state h)

visited_ended : (enclosed : Bool) (past : List Point) (state : State) → visited enclosed past (Ended state) ≡ past
unfolding passed
visited_ended true past state = refl
visited_ended false past state = refl

crossing_ended : (enclosed : Bool) (masks : Masks) (past : List Point) (state : State) →
    crossing_unless enclosed masks past (Ended state) ≡ []
unfolding crossing
crossing_ended true masks past state = refl
crossing_ended false masks past state = refl

-- ---- one turn

abbrev placed : State → List Point → Option Break → Place
placed state past broken = record { state = state; past = past; broken = broken }

same_place :
    (first second : State) (before after : List Point) (broken other : Option Break) → first ≡ second → before ≡ after →
    broken ≡ other → placed first before broken ≡ placed second after other
same_place first second before after broken other e f g = cc

still_unless : (broken : Option Break) (enclosures : Enclosures) (place : Place) → place.broken ≡ broken →
    IsOver place.state.control.mode → turn_unless broken enclosures place ≡ place
still_unless (Some broken) enclosures place is h = refl
still_unless None enclosures place is h =
    let ends : guest_walk enclosures.regions place.state ≡ Ended place.state = still_guest enclosures.regions
    place.state h in
    same_place (real_end (guest_walk enclosures.regions place.state)) place.state
    (visited (is_enclosed enclosures place.state.control) place.past (guest_walk enclosures.regions place.state))
    place.past (Breaks enclosures.regions place.state) place.broken (still_end enclosures place.state h)
    (ap (λ w. visited (is_enclosed enclosures place.state.control) place.past w) ends
    ∙ visited_ended (is_enclosed enclosures place.state.control) place.past place.state)
    (still_breaks enclosures place.state h ∙ sym is)

pub still_real : (enclosures : Enclosures) (place : Place) → IsOver place.state.control.mode →
    real_turn enclosures place ≡ place
still_real enclosures place h = still_unless place.broken enclosures place refl h

pub broken_real : (enclosures : Enclosures) (place : Place) (broken : Break) → place.broken ≡ Some broken →
    real_turn enclosures place ≡ place
broken_real enclosures place broken e = ap (λ b. turn_unless b enclosures place) e

quiet_unbroken : (broken : Option Break) (enclosures : Enclosures) (masks : Masks) (place : Place) →
    IsOver place.state.control.mode → crossing_unbroken broken enclosures masks place ≡ []
quiet_unbroken (Some broken) enclosures masks place h = refl
quiet_unbroken None enclosures masks place h =
    ap (λ w. crossing_unless (is_enclosed enclosures place.state.control) masks place.past w)
    (still_guest enclosures.regions place.state h)
    ∙ crossing_ended (is_enclosed enclosures place.state.control) masks place.past place.state

pub still_crossing : (enclosures : Enclosures) (masks : Masks) (place : Place) → IsOver place.state.control.mode →
    crossing_of enclosures masks place ≡ []
still_crossing enclosures masks place h = quiet_unbroken place.broken enclosures masks place h

-- ---- whole runs

-- from a turn on after which a run stands still
pub real_stays :
    (enclosures : Enclosures) (place : Place) (turns more : ℕ) → turns ≤ more →
    real_turn enclosures (Real enclosures turns place) ≡ Real enclosures turns place →
    Real enclosures more place ≡ Real enclosures turns place
unfolding Real
real_stays enclosures place turns zero h still =
    let same : zero ≡ turns = omega arith in ap (λ n. Real enclosures n place) same
real_stays enclosures place turns (suc more) h still = elim (le_or_lt turns more) [
  | inl k ↦ ap (λ p. real_turn enclosures p) (real_stays enclosures place turns more k still) ∙ still
  | inr k ↦ let same : suc more ≡ turns = omega arith in ap (λ n. Real enclosures n place) same
]

-- from the turn on after which it is over
pub real_later :
    (enclosures : Enclosures) (place : Place) (turns more : ℕ) → turns ≤ more →
    IsOver (Real enclosures turns place).state.control.mode →
    Real enclosures more place ≡ Real enclosures turns place
real_later enclosures place turns more h over =
    real_stays enclosures place turns more h (still_real enclosures (Real enclosures turns place) over)

none_or_some : (broken : Option Break) → ((b : Break) → broken ≡ Some b → ⊥) → broken ≡ None
none_or_some None h = refl
none_or_some (Some b) h = absurd (h b refl)

-- a run that no break has ended was not ended by one before
pub unbroken_before :
    (enclosures : Enclosures) (place : Place) (turns more : ℕ) → turns ≤ more →
    (Real enclosures more place).broken ≡ None → (Real enclosures turns place).broken ≡ None
unbroken_before enclosures place turns more h none =
    none_or_some (Real enclosures turns place).broken (λ b e.
    let same : Real enclosures more place ≡ Real enclosures turns place =
    real_stays enclosures place turns more h (broken_real enclosures (Real enclosures turns place) b e) in
    let both : None ≡ Some b = sym none ∙ (ap (λ (p : Place). p.broken) same ∙ e) in cc)

pub cross_later :
    (enclosures : Enclosures) (masks : Masks) (place : Place) (turns more : ℕ) → turns ≤ more →
    IsOver (Real enclosures turns place).state.control.mode →
    cross_after enclosures masks more place ≡ cross_after enclosures masks turns place
unfolding cross_after
cross_later enclosures masks place turns zero h over =
    let same : zero ≡ turns = omega arith in ap (λ n. cross_after enclosures masks n place) same
cross_later enclosures masks place turns (suc more) h over = elim (le_or_lt turns more) [
  | inl k ↦
      let quiet : crossing_of enclosures masks (Real enclosures more place) ≡ [] =
      ap (λ p. crossing_of enclosures masks p) (real_later enclosures place turns more k over)
      ∙ still_crossing enclosures masks (Real enclosures turns place) over in
      ap (λ bits. cross_after enclosures masks more place ++ bits) quiet
      ∙ (append-nil (cross_after enclosures masks more place)
      ∙ cross_later enclosures masks place turns more k over)
  | inr k ↦ let same : suc more ≡ turns = omega arith in ap (λ n. cross_after enclosures masks n place) same
]

pub replay_later :
    (enclosures : Enclosures) (masks : Masks) (first : ReplayPlace) (turns more : ℕ) (bits : List Bool)
    (place : ReplayPlace) (rest : List Bool) → turns ≤ more → place.outside ≡ None → IsOver place.state.control.mode →
    feed (Replay enclosures masks turns first) bits ≡ Fed' place rest →
    feed (Replay enclosures masks more first) bits ≡ Fed' place rest
unfolding Replay
replay_later enclosures masks first turns zero bits place rest h inside over e =
    let same : zero ≡ turns = omega arith in ap (λ n. feed (Replay enclosures masks n first) bits) same ∙ e
replay_later enclosures masks first turns (suc more) bits place rest h inside over e = elim (le_or_lt turns more) [
  | inl k ↦
      feed_then (Replay enclosures masks more first) (replay_turn enclosures masks) bits place rest
      (replay_later enclosures masks first turns more bits place rest k inside over e)
      ∙ ap (λ asker. feed asker rest) (still_replay enclosures masks place inside over)
  | inr k ↦
      let same : suc more ≡ turns = omega arith in ap (λ n. feed (Replay enclosures masks n first) bits) same ∙ e
]

-- Whole runs, turn by turn: one more turn of each, and how their crossing bits and their outputs grow.
use Rattle.std.proofs.Common.{◌≡◌, ℕ, zero, suc, ◌≤◌, inl, inr, List, [], ◌∷◌, ◌++◌, length, refl, ap, subst, sym, ◌∙◌}
use Rattle.std.proofs.Common.{append_assoc, append-nil, length-append, Bool, true, false, Option, Some, None, arith}
use Rattle.std.specs.Prelude.{if◌then◌else◌}
use Rattle.crossing_bits.specs.Askers.{Over, Uses, Fed', feed}
use Rattle.crossing_bits.proofs.Feeding.{le_or_lt, feed_after, feed_more}
use Rattle.enclosure_regions.specs.declared.break_kinds.Break.{Break}
use Rattle.region_machine.specs.Enclosures.{Enclosures, is_enclosed}
use Rattle.region_machine.specs.Guests.{guest_walk}
use Rattle.replay_machine.specs.ReplayTurns.{Outside, range_outside}
use Rattle.region_machine.specs.Runs.{Place, turn_unless, real_turn, Real, common_turns}
use Rattle.replay_machine.specs.Runs.{ReplayPlace, Masks}
use Rattle.replay_machine.specs.Runs.{replay_inside, replay_unless, replay_turn, Replay}
use Rattle.replay_machine.proofs.FedAskersSplit.{Between, between}
use Rattle.region_machine.proofs.OutputGrows.{Longer, longer_self, longer_more, real_grows}
use Rattle.replay_machine.proofs.ReplayEnds.{replay_grows}
use Rattle.lockstep_replay.specs.Crossing.{crossing_unless, crossing_unbroken, crossing_of, cross_after}

-- ---- crossing bits

-- the crossing bits begin with what they were
pub cross_begins :
    (enclosures : Enclosures) (masks : Masks) (place : Place) (j n : ℕ) → j ≤ n → (more : List Bool)
    × (cross_after enclosures masks n place ≡ cross_after enclosures masks j place ++ more)
unfolding cross_after
cross_begins enclosures masks place j zero h =
    let same : zero ≡ j = omega (arith, h) in (
      [],
      ap (λ i. cross_after enclosures masks i place) same ∙ sym (append-nil (cross_after enclosures masks j place)),
    )
cross_begins enclosures masks place j (suc n) h = elim (le_or_lt j n) [
  | inl k ↦
      let before : (more : List Bool) × (cross_after enclosures masks n place ≡ cross_after enclosures masks j place
      ++ more) =
      cross_begins enclosures masks place j n k in (
        before.0 ++ crossing_of enclosures masks (Real enclosures n place),
        ap (λ s. s ++ crossing_of enclosures masks (Real enclosures n place)) before.1
            ∙ append_assoc (cross_after enclosures masks j place) before.0
            (crossing_of enclosures masks (Real enclosures n place)),
      )
  | inr k ↦
      let same : suc n ≡ j = omega (arith, h, k) in (
        [],
        ap (λ i. cross_after enclosures masks i place) same ∙ sym (append-nil (cross_after enclosures masks j place)),
      )
]

pub cross_grows :
    (enclosures : Enclosures) (masks : Masks) (place : Place) (j n : ℕ) → j ≤ n →
    length (cross_after enclosures masks j place) ≤ length (cross_after enclosures masks n place)
cross_grows enclosures masks place j n h =
    let begins : (more : List Bool) × (cross_after enclosures masks n place ≡ cross_after enclosures masks j place
    ++ more) =
    cross_begins enclosures masks place j n h in
    omega (arith, ap length begins.1, length-append (cross_after enclosures masks j place) begins.0)

-- ---- common turns

pub common_enclosed : (enclosures : Enclosures) (turns : ℕ) (place : Place) →
    is_enclosed enclosures (Real enclosures turns place).state.control ≡ true →
    common_turns enclosures (suc turns) place ≡ common_turns enclosures turns place
unfolding common_turns
common_enclosed enclosures turns place e =
    ap (λ b. if b then common_turns enclosures turns place else suc (common_turns enclosures turns place)) e

pub common_exposed : (enclosures : Enclosures) (turns : ℕ) (place : Place) →
    is_enclosed enclosures (Real enclosures turns place).state.control ≡ false →
    common_turns enclosures (suc turns) place ≡ suc (common_turns enclosures turns place)
unfolding common_turns
common_exposed enclosures turns place e =
    ap (λ b. if b then common_turns enclosures turns place else suc (common_turns enclosures turns place)) e

no_less : (enclosed : Bool) (count least : ℕ) → least ≤ count → least ≤ (if enclosed then count else suc count)
no_less true count least h = h
no_less false count least h = omega (arith, h)

no_more : (enclosed : Bool) (count turns : ℕ) → count ≤ turns → (if enclosed then count else suc count) ≤ suc turns
no_more true count turns h = omega (arith, h)
no_more false count turns h = omega (arith, h)

-- there are no more common turns than turns
pub common_most : (enclosures : Enclosures) (turns : ℕ) (place : Place) → common_turns enclosures turns place ≤ turns
unfolding common_turns
common_most enclosures zero place = omega arith
common_most enclosures (suc turns) place =
    no_more (is_enclosed enclosures (Real enclosures turns place).state.control)
    (common_turns enclosures turns place) turns (common_most enclosures turns place)

pub common_grows : (enclosures : Enclosures) (place : Place) (j n : ℕ) → j ≤ n →
    common_turns enclosures j place ≤ common_turns enclosures n place
unfolding common_turns
common_grows enclosures place j zero h =
    let same : j ≡ zero = omega (arith, h) in
    let equal : common_turns enclosures j place ≡ common_turns enclosures zero place =
    ap (λ i. common_turns enclosures i place) same in
    omega (arith, equal)
common_grows enclosures place j (suc n) h = elim (le_or_lt j n) [
  | inl k ↦
      no_less (is_enclosed enclosures (Real enclosures n place).state.control) (common_turns enclosures n place)
      (common_turns enclosures j place) (common_grows enclosures place j n k)
  | inr k ↦
      let same : j ≡ suc n = omega (arith, h, k) in
      let equal : common_turns enclosures j place ≡ common_turns enclosures (suc n) place =
      ap (λ i. common_turns enclosures i place) same in
      omega (arith, equal)
]

-- ---- one more turn

pub real_next : (enclosures : Enclosures) (turns : ℕ) (place : Place) →
    Real enclosures (suc turns) place ≡ real_turn enclosures (Real enclosures turns place)
unfolding Real
real_next enclosures turns place = refl

pub cross_next :
    (enclosures : Enclosures) (masks : Masks) (turns : ℕ) (place : Place) →
    cross_after enclosures masks (suc turns) place ≡ cross_after enclosures masks turns place ++ crossing_of enclosures
    masks (Real enclosures turns place)
unfolding cross_after
cross_next enclosures masks turns place = refl

-- the replay uses up the real run's crossing bits so far in the common turns so far, and is at a place
abbrev pub IsAt : Enclosures → Masks → Place → ReplayPlace → ℕ → ReplayPlace → Type 0
IsAt enclosures masks real copy turns place =
    Uses (Replay enclosures masks (common_turns enclosures turns real) copy) (cross_after enclosures masks turns real)
    place

-- where the replay has used up the bits so far, one more turn of it takes the bits of one more turn
pub fed_next :
    (enclosures : Enclosures) (masks : Masks) (turns : ℕ) (real : Place) (copy place : ReplayPlace) →
    is_enclosed enclosures (Real enclosures turns real).state.control ≡ false →
    IsAt enclosures masks real copy turns place → feed (Replay enclosures masks
    (common_turns enclosures (suc turns) real) copy) (cross_after enclosures masks (suc turns) real) ≡ feed
    (replay_turn enclosures masks place) (crossing_of enclosures masks (Real enclosures turns real))
unfolding Replay cross_after
fed_next enclosures masks turns real copy place exposed h =
    ap (λ n. feed (Replay enclosures masks n copy) (cross_after enclosures masks (suc turns) real))
    (common_exposed enclosures turns real exposed)
    ∙ feed_after (Replay enclosures masks (common_turns enclosures turns real) copy) (replay_turn enclosures masks)
    (cross_after enclosures masks turns real) (crossing_of enclosures masks (Real enclosures turns real)) place h

quiet_unless : (broken : Option Break) (enclosures : Enclosures) (masks : Masks) (place : Place) →
    is_enclosed enclosures place.state.control ≡ true → crossing_unbroken broken enclosures masks place ≡ []
quiet_unless (Some broken) enclosures masks place e = refl
quiet_unless None enclosures masks place e =
    ap (λ b. crossing_unless b masks place.past (guest_walk enclosures.regions place.state)) e

-- a turn that is enclosed crosses nothing
pub quiet_enclosed : (enclosures : Enclosures) (masks : Masks) (place : Place) →
    is_enclosed enclosures place.state.control ≡ true → crossing_of enclosures masks place ≡ []
quiet_enclosed enclosures masks place e = quiet_unless place.broken enclosures masks place e

pub cross_enclosed :
    (enclosures : Enclosures) (masks : Masks) (turns : ℕ) (place : Place) →
    is_enclosed enclosures (Real enclosures turns place).state.control ≡ true →
    cross_after enclosures masks (suc turns) place ≡ cross_after enclosures masks turns place
cross_enclosed enclosures masks turns place e =
    cross_next enclosures masks turns place
    ∙ (ap (λ bits. cross_after enclosures masks turns place ++ bits)
    (quiet_enclosed enclosures masks (Real enclosures turns place) e)
    ∙ append-nil (cross_after enclosures masks turns place))

-- and the replay stays where it is
pub at_enclosed :
    (enclosures : Enclosures) (masks : Masks) (real : Place) (copy : ReplayPlace) (turns : ℕ) (place : ReplayPlace) →
    is_enclosed enclosures (Real enclosures turns real).state.control ≡ true →
    IsAt enclosures masks real copy turns place → IsAt enclosures masks real copy (suc turns) place
at_enclosed enclosures masks real copy turns place e h =
    ap (λ n. feed (Replay enclosures masks n copy) (cross_after enclosures masks (suc turns) real))
    (common_enclosed enclosures turns real e)
    ∙ (ap (λ bits. feed (Replay enclosures masks (common_turns enclosures turns real) copy) bits)
    (cross_enclosed enclosures masks turns real e) ∙ h)

-- ---- outputs

abbrev pub written : Place → List ℕ
written place = place.state.control.output

abbrev pub rewritten : ReplayPlace → List ℕ
rewritten place = place.state.control.output

real_same : (enclosures : Enclosures) (place : Place) (j n : ℕ) → j ≡ n →
    Longer (written (Real enclosures j place)) (written (Real enclosures n place))
real_same enclosures place j n e =
    subst (λ i. Longer (written (Real enclosures j place)) (written (Real enclosures i place))) e
    (longer_self (written (Real enclosures j place)))

unless_grows : (broken : Option Break) (enclosures : Enclosures) (place : Place) →
    Longer (written place) (written (turn_unless broken enclosures place))
unless_grows (Some broken) enclosures place = longer_self (written place)
unless_grows None enclosures place = real_grows enclosures.regions place.state

-- in one turn, and in a turn of the replay
turn_grows : (enclosures : Enclosures) (place : Place) → Longer (written place) (written (real_turn enclosures place))
turn_grows enclosures place = unless_grows place.broken enclosures place

over_grows : (place other last : ReplayPlace) (bits rest : List Bool) → rewritten other ≡ rewritten place →
    feed (Over other) bits ≡ Fed' last rest → Longer (rewritten place) (rewritten last)
over_grows place other last bits rest same e =
    let there : other ≡ last = cc in
    subst (λ output. Longer (rewritten place) output) (sym same ∙ ap (λ (p : ReplayPlace). rewritten p) there)
    (longer_self (rewritten place))

inside_grows :
    (outside : Option Outside) (enclosures : Enclosures) (masks : Masks) (place : ReplayPlace) (bits : List Bool)
    (last : ReplayPlace) (rest : List Bool) → feed (replay_inside outside enclosures masks place) bits ≡ Fed' last
    rest → Longer (rewritten place) (rewritten last)
inside_grows None enclosures masks place bits last rest e =
    replay_grows enclosures masks place.past place.state bits last rest e
inside_grows (Some outside) enclosures masks place bits last rest e =
    over_grows place (record { state = place.state; past = place.past; outside = Some outside }) last bits rest refl e

outside_grows :
    (outside : Option Outside) (enclosures : Enclosures) (masks : Masks) (place : ReplayPlace) (bits : List Bool)
    (last : ReplayPlace) (rest : List Bool) → feed (replay_unless outside enclosures masks place) bits ≡ Fed' last
    rest → Longer (rewritten place) (rewritten last)
outside_grows None enclosures masks place bits last rest e =
    inside_grows (range_outside enclosures.regions place.state) enclosures masks place bits last rest e
outside_grows (Some outside) enclosures masks place bits last rest e = over_grows place place last bits rest refl e

replay_turn_grows :
    (enclosures : Enclosures) (masks : Masks) (place : ReplayPlace) (bits : List Bool) (last : ReplayPlace)
    (rest : List Bool) → feed (replay_turn enclosures masks place) bits ≡ Fed' last rest →
    Longer (rewritten place) (rewritten last)
replay_turn_grows enclosures masks place bits last rest e =
    outside_grows place.outside enclosures masks place bits last rest e

-- ---- whole runs

-- the output of the real run begins with what it was
pub real_run_grows : (enclosures : Enclosures) (place : Place) (j n : ℕ) → j ≤ n →
    Longer (written (Real enclosures j place)) (written (Real enclosures n place))
unfolding Real
real_run_grows enclosures place j zero h =
    let same : j ≡ zero = omega (arith, h) in real_same enclosures place j zero same
real_run_grows enclosures place j (suc n) h = elim (le_or_lt j n) [
  | inl k ↦
      longer_more (written (Real enclosures j place)) (written (Real enclosures n place))
      (written (Real enclosures (suc n) place)) (real_run_grows enclosures place j n k)
      (turn_grows enclosures (Real enclosures n place))
  | inr k ↦ let same : j ≡ suc n = omega (arith, h, k) in real_same enclosures place j (suc n) same
]

replay_same :
    (enclosures : Enclosures) (masks : Masks) (copy : ReplayPlace) (bits : List Bool) (j n : ℕ)
    (first last : ReplayPlace) (rest left : List Bool) → j ≡ n →
    feed (Replay enclosures masks j copy) bits ≡ Fed' first rest →
    feed (Replay enclosures masks n copy) bits ≡ Fed' last left → Longer (rewritten first) (rewritten last)
replay_same enclosures masks copy bits j n first last rest left e u v =
    let there : feed (Replay enclosures masks n copy) bits ≡ Fed' first rest =
    subst (λ i. feed (Replay enclosures masks i copy) bits ≡ Fed' first rest) e u in
    let same : first ≡ last = cc in
    subst (λ (p : ReplayPlace). Longer (rewritten first) (rewritten p)) same (longer_self (rewritten first))

-- the output of a replay begins with what it was
replay_run_grows :
    (enclosures : Enclosures) (masks : Masks) (copy : ReplayPlace) (bits : List Bool) (j n : ℕ)
    (first last : ReplayPlace) (rest left : List Bool) → j ≤ n →
    feed (Replay enclosures masks j copy) bits ≡ Fed' first rest →
    feed (Replay enclosures masks n copy) bits ≡ Fed' last left → Longer (rewritten first) (rewritten last)
unfolding Replay
replay_run_grows enclosures masks copy bits j zero first last rest left h u v =
    let same : j ≡ zero = omega (arith, h) in
    replay_same enclosures masks copy bits j zero first last rest left same u v
replay_run_grows enclosures masks copy bits j (suc n) first last rest left h u v = elim (le_or_lt j n) [
  | inl early ↦
      let mid : Between (Replay enclosures masks n copy) (replay_turn enclosures masks) bits last left =
      between (Replay enclosures masks n copy) (replay_turn enclosures masks) bits last left v in
      longer_more (rewritten first) (rewritten mid.value) (rewritten last)
      (replay_run_grows enclosures masks copy bits j n first mid.value rest mid.left early u mid.first)
      (replay_turn_grows enclosures masks mid.value mid.left last left mid.second)
  | inr late ↦
      let same : j ≡ suc n = omega (arith, h, late) in
      replay_same enclosures masks copy bits j (suc n) first last rest left same u v
]

-- also where the string has been made longer
pub replay_more_grows :
    (enclosures : Enclosures) (masks : Masks) (copy : ReplayPlace) (bits more : List Bool) (j n : ℕ)
    (first last : ReplayPlace) (left : List Bool) → j ≤ n → Uses (Replay enclosures masks j copy) bits first →
    feed (Replay enclosures masks n copy) (bits ++ more) ≡ Fed' last left → Longer (rewritten first) (rewritten last)
replay_more_grows enclosures masks copy bits more j n first last left h u v =
    replay_run_grows enclosures masks copy (bits ++ more) j n first last more left h
    (feed_more (Replay enclosures masks j copy) bits more first [] u) v

-- two beginnings of one list that are as long as each other
pub same_beginning :
    (first second more other : List ℕ) → first ++ more ≡ second ++ other → length first ≡ length second → first ≡ second
same_beginning [] [] more other e h = refl
same_beginning [] (y ∷ second) more other e h = absurd (omega (arith, h))
same_beginning (x ∷ first) [] more other e h = absurd (omega (arith, h))
same_beginning (x ∷ first) (y ∷ second) more other e h =
    let rest : first ++ more ≡ second ++ other = cc in
    let long : length first ≡ length second = omega (arith, h) in
    let tails : first ≡ second = same_beginning first second more other rest long in
    let heads : x ≡ y = cc in cc

-- A turn of a masked replay from two places with the same state: it asks for the same bits and meets the same, or comes
-- to two places with the same state.
use Rattle.std.proofs.Common.{◌≡◌, ℕ, ◌+◌, ◌∷◌, [], List, Bool, Option, Some, None, refl, sym, ap, ap₂, ◌∙◌}
use Rattle.std.proofs.Common.{subst, drop, take, length, inl, inr}
use Rattle.std.specs.Prelude.{◌==◌, ◌&&◌, ◌-◌, bit_and, if◌then◌else◌}
use Rattle.crossing_bits.specs.Askers.{Asker, Asks, Fed', Over, Short, feed}
use Rattle.crossing_bits.proofs.Feeding.{feed_enough, feed_few, le_or_lt}
use Rattle.enclosure_regions.specs.declared.region_parts.Range.{Range}
use Rattle.flow_base.specs.Words.{bit_count, patched}
use Rattle.rv32im_machine.specs.declared.language.Passing.{Passing}
use Rattle.rv32im_machine.specs.declared.language.Seen.{Seen}
use Rattle.rv32im_machine.specs.declared.language.Seen.TheVariants.{Word, Base}
use Rattle.rv32im_machine.specs.Language.{Walk, Looked, Passed, Moved, Saved, Restored, Ended}
use Rattle.rv32im_machine.specs.State.{State}
use Rattle.region_machine.specs.Enclosures.{Enters, Kind, Leaves, Steps, kind_of}
use Rattle.replay_machine.specs.declared.outsides.Outside.{Outside}
use Rattle.replay_machine.specs.ReplayTurns.{kind_outside_range, replay_kind_walk}
use Rattle.replay_machine.specs.Runs.{Masks}
use Rattle.lockstep_replay.specs.Tasks.{Task}
use Rattle.lockstep_replay.specs.Verdicts.{counted_bits}
use Rattle.run_labels.specs.Masks.{masks_of, work_mask}
use Rattle.run_labels.specs.Runs.{entered_number}
use Rattle.run_labels.specs.TurnLabels.{TurnLabels}
use Rattle.shadow_masks.specs.Pages.{label_of}
use Rattle.shadow_masks.specs.Writes.{LabelMap}
use Rattle.flow_base.specs.Points.{nowhere}
use Rattle.masked_turns.specs.declared.uses.SecretLook.TheVariants.{BaseRegister, Code}
use Rattle.masked_turns.specs.Clearing.{Cutting, aimed_mask, crossing_at, uncrossed}
use Rattle.masked_turns.specs.Deciding.{left_at}
use Rattle.masked_turns.specs.Looking.{look_at}
use Rattle.every_secret.specs.declared.whys.UnclearWhy.{UnclearWhy}
use Rattle.every_secret.specs.Masked.{Goes, Halts, MaskedPlace, Meets, Reached, label_moved, masked, unclear_by_left, unclear_by_look}
use Rattle.every_secret.specs.Masked.{unless_met}
use Rattle.every_secret.specs.Rules.{Rules, answer_to}
use Rattle.every_secret.specs.Shown.{asked_for, byte_masks_after, shown_at, status_mask_after}
use Rattle.every_secret.specs.States.{SameState}
use Rattle.every_secret.specs.Turns.{cutting_of, kind_turn, knowledge_at, masked_turn, secret_base, secret_base_of}
use Rattle.every_secret.specs.Turns.{secret_or, turn_from, turn_inside}
use Rattle.every_secret.specs.Visits.{Knowledge, differing_at, known_after, left_of_mask}
use Rattle.every_secret.proofs.AlikeMasks.{Grows, SameLabels, SameMap, SameVisits, grows_more, grows_none, same_aimed}
use Rattle.every_secret.proofs.AlikeMasks.{same_crossing, same_label, same_masks, same_label_moved, same_passed, same_put}
use Rattle.every_secret.proofs.AlikeMasks.{same_restored, same_saved}

-- ---- two askers that ask for the same

-- they ask for as many bits, and come to values that are alike
abbrev pub AskAlike : {A : Type 0} → (A → A → Type 0) → Asker A → Asker A → Type 0
AskAlike Same (Over x) (Over y) = Same x y
AskAlike Same (Over x) (Asks count to) = ⊥
AskAlike Same (Asks count go) (Over y) = ⊥
AskAlike Same (Asks count go) (Asks other to) =
    (count ≡ other) × ((bits : List Bool) → AskAlike Same (go bits) (to bits))

-- what the second comes to
pub record FedAlike {A : Type 0} (Same : A → A → Type 0) (asker : Asker A) (bits : List Bool) (x : A)
    (rest : List Bool) : Type 0 where
  pub value : A
  pub feeds : feed asker bits ≡ Fed' value rest
  pub same : Same x value

pub feed_alike : {A : Type 0} (Same : A → A → Type 0) (asker other : Asker A) → AskAlike Same asker other →
    (bits : List Bool) (x : A) (rest : List Bool) → feed asker bits ≡ Fed' x rest → FedAlike Same other bits x rest
feed_alike Same (Over x) (Over y) same bits z rest h =
    let one : x ≡ z = cc in
    let two : bits ≡ rest = cc in
    record { value = y; feeds = ap (λ s. Fed' y s) two; same = subst (λ v. Same v y) one same }
feed_alike Same (Over x) (Asks count to) same bits z rest h = absurd same
feed_alike Same (Asks count go) (Over y) same bits z rest h = absurd same
feed_alike Same (Asks count go) (Asks other to) same bits z rest h = elim (le_or_lt count (length bits)) [
  | inl enough ↦
      let inner = feed_alike Same (go (take count bits)) (to (take count bits)) (same.1 (take count bits))
      (drop count bits) z rest (sym (feed_enough count go bits enough) ∙ h) in record {
        value = inner.value;
        feeds = subst (λ n. feed (Asks n to) bits ≡ Fed' inner.value rest) same.0
            (feed_enough count to bits enough ∙ inner.feeds);
        same = inner.same;
      }
  | inr few ↦
      let short : feed (Asks count go) bits ≡ Short (count - length bits) = feed_few count go bits few in absurd (cc)
]

-- ---- what a turn comes to

-- two places with the same state, to which as many bits more have crossed
pub record GoAlike (masks : Masks) (start other : ℕ) (first second : MaskedPlace) : Type 0 where
  pub same : SameState masks first second
  pub more : ℕ
  pub grows : Grows start more first.crossed
  pub other_grows : Grows other more second.crossed
  pub equal : start ≡ other → first.crossed ≡ second.crossed

abbrev pub AlikeReached : Masks → ℕ → ℕ → Reached → Reached → Type 0
AlikeReached masks start other (Goes first) (Goes second) = GoAlike masks start other first second
AlikeReached masks start other (Goes first) (Meets why) = ⊥
AlikeReached masks start other (Goes first) (Halts outside) = ⊥
AlikeReached masks start other (Meets why) (Goes second) = ⊥
AlikeReached masks start other (Meets why) (Meets met) = why ≡ met
AlikeReached masks start other (Meets why) (Halts outside) = ⊥
AlikeReached masks start other (Halts outside) (Goes second) = ⊥
AlikeReached masks start other (Halts outside) (Meets why) = ⊥
AlikeReached masks start other (Halts outside) (Halts beyond) = outside ≡ beyond

-- ---- within a turn

-- two walks know the same, but for the points of labels, the visits of points so far, and how many bits have crossed
pub record SameKnowledge (masks : Masks) (start begun : ℕ) (known other : Knowledge) : Type 0 where
  pub visits : SameVisits masks known.past other.past
  pub labels : SameLabels known.labels other.labels
  pub byte_masks : known.byte_masks ≡ other.byte_masks
  pub status_mask : known.status_mask ≡ other.status_mask
  pub more : ℕ
  pub grows : Grows start more known.crossed
  pub other_grows : Grows begun more other.crossed
  pub equal : start ≡ begun → known.crossed ≡ other.crossed

same_look : (labels others : TurnLabels) → SameLabels labels others → (region : ℕ) (seen : Seen) →
    look_at region labels seen ≡ look_at region others seen
same_look labels others same region (Word address) = λ i.
    if (same.map.bytes address i == 0) && ((same.map.bytes (address + 1) i == 0)
    && ((same.map.bytes (address + 2) i == 0) && (same.map.bytes (address + 3) i == 0)))
    then None else Some (Code address)
same_look labels others same region (Base register) = λ i.
    if same.map.registers register i == 0 then None else Some (BaseRegister region register)

relabelled : {masks : Masks} {start begun : ℕ} {known other : Knowledge} (labels others : TurnLabels) →
    SameKnowledge masks start begun known other → SameLabels labels others →
    SameKnowledge masks start begun (record known { labels = labels }) (record other { labels = others })
relabelled labels others same alike = record {
  visits = same.visits;
  labels = alike;
  byte_masks = same.byte_masks;
  status_mask = same.status_mask;
  more = same.more;
  grows = same.grows;
  other_grows = same.other_grows;
  equal = same.equal;
}

module _ (rules : Rules) (cutting : Cutting) (start begun : ℕ) where
  abbrev Known : Knowledge → Knowledge → Type 0
  Known known other = SameKnowledge cutting.masks start begun known other

  module _ (known other : Knowledge) (passing : Passing) (same : Known known other) where
    crossing_is : crossing_at cutting known.past passing ≡ crossing_at cutting other.past passing
    crossing_is = same_crossing cutting.masks known.past other.past same.visits passing.point

    masks_is : masks_of known.labels passing.sources ≡ masks_of other.labels passing.sources
    masks_is = same_masks same.labels passing.sources

    -- the mask of the passing, by the masks of its sources
    abbrev mask_by : List ℕ → ℕ
    mask_by masks =
        aimed_mask cutting.skipped passing.aim passing.point.slot
        (work_mask passing.work masks (answer_to rules passing.work masks))

    differing_is : differing_at rules cutting known passing ≡ differing_at rules cutting other passing
    differing_is = ap₂ (λ masks crossing. bit_and (mask_by masks) crossing) masks_is crossing_is

    left_is : left_of_mask rules cutting known passing ≡ left_of_mask rules cutting other passing
    left_is = ap₂ (λ masks crossing. uncrossed (mask_by masks) crossing) masks_is crossing_is

    known_is : Known (known_after rules cutting known passing) (known_after rules cutting other passing)
    known_is =
        let first = bit_count (crossing_at cutting known.past passing) in
        let second = bit_count (crossing_at cutting other.past passing) in record {
          visits = same_passed cutting.masks known.past other.past same.visits passing.point;
          labels = same_aimed same.labels passing.aim (label_of (left_of_mask rules cutting known passing) nowhere)
              (label_of (left_of_mask rules cutting other passing) nowhere)
              (same_label (left_of_mask rules cutting known passing) (left_of_mask rules cutting other passing) nowhere
              nowhere left_is);
          byte_masks = ap₂ (λ free masks. byte_masks_after (shown_at passing.point.slot) free masks) differing_is
              same.byte_masks;
          status_mask = ap₂ (λ free mask. status_mask_after (shown_at passing.point.slot) free mask) differing_is
              same.status_mask;
          more = same.more + first;
          grows = grows_more start same.more known.crossed first same.grows;
          other_grows = subst (λ n. Grows begun (same.more + n) (counted_bits (other.crossed + second)))
              (ap (λ n. bit_count n) (sym crossing_is)) (grows_more begun same.more other.crossed second same.other_grows);
          equal = λ starts. ap₂ (λ crossed crossing. counted_bits (crossed + bit_count crossing)) (same.equal starts)
              crossing_is;
        }

  module _ (region : ℕ) where
    abbrev Both : Asker Reached → Asker Reached → Type 0
    Both asker other = AskAlike (AlikeReached cutting.masks start begun) asker other

    unless_alike : (met also : Option UnclearWhy) → met ≡ also → (asker other : Asker Reached) → Both asker other →
        Both (unless_met met asker) (unless_met also other)
    unless_alike met also e asker other both =
        subst (λ m. Both (unless_met met asker) (unless_met m other)) e (by met)
      where
        by : (m : Option UnclearWhy) → Both (unless_met m asker) (unless_met m other)
        by None = both
        by (Some why) = refl

    pub masked_alike : (walk : Walk) (known other : Knowledge) → Known known other →
        Both (masked rules cutting region known walk) (masked rules cutting region other walk)
    unfolding masked
    masked_alike (Looked seen value walk) known other same =
        unless_alike (unclear_by_look (look_at region known.labels seen))
        (unclear_by_look (look_at region other.labels seen))
        (ap (λ look. unclear_by_look look) (same_look known.labels other.labels same.labels region seen))
        (masked rules cutting region known walk) (masked rules cutting region other walk)
        (masked_alike walk known other same)
    masked_alike (Passed passing go) known other same = (
      ap (λ mask. asked_for (shown_at passing.point.slot) mask) (differing_is known other passing same),
      λ bits. unless_alike
          (unclear_by_left (left_at passing.aim passing.point (left_of_mask rules cutting known passing)))
          (unclear_by_left (left_at passing.aim passing.point (left_of_mask rules cutting other passing)))
          (ap (λ mask. unclear_by_left (left_at passing.aim passing.point mask)) (left_is known other passing same))
          (masked rules cutting region (known_after rules cutting known passing)
          (go (patched passing.value (differing_at rules cutting known passing) bits)))
          (masked rules cutting region (known_after rules cutting other passing)
          (go (patched passing.value (differing_at rules cutting other passing) bits)))
          (subst (λ mask. Both (masked rules cutting region (known_after rules cutting known passing)
          (go (patched passing.value (differing_at rules cutting known passing) bits)))
          (masked rules cutting region (known_after rules cutting other passing) (go (patched passing.value mask bits))))
          (differing_is known other passing same)
          (masked_alike (go (patched passing.value (differing_at rules cutting known passing) bits))
          (known_after rules cutting known passing) (known_after rules cutting other passing)
          (known_is known other passing same))),
    )
    masked_alike (Moved place shape source value walk) known other same =
        masked_alike walk _ _ (relabelled _ _ same
        (same_put same.labels place (label_moved rules.public cutting.skipped known.labels place shape source)
        (label_moved rules.public cutting.skipped other.labels place shape source)
        (same_label_moved rules cutting same.labels place shape source)))
    masked_alike (Saved walk) known other same =
        masked_alike walk _ _ (relabelled _ _ same (same_saved same.labels))
    masked_alike (Restored registers walk back) known other same =
        masked_alike back _ _ (relabelled _ _ same (same_restored same.labels registers))
    masked_alike (Ended state) known other same = record {
      same = record {
        state = refl;
        visits = same.visits;
        registers = same.labels.map.registers;
        kept = same.labels.map.kept;
        bytes = same.labels.map.bytes;
        byte_masks = same.byte_masks;
        status_mask = same.status_mask;
      };
      more = same.more;
      grows = same.grows;
      other_grows = same.other_grows;
      equal = same.equal;
    }

-- ---- a turn

base_or_same : (labels others : LabelMap) → SameMap labels others → (from later also : Option ℕ) → later ≡ also →
    secret_or from labels later ≡ secret_or from others also
base_or_same labels others same None later also e = e
base_or_same labels others same (Some register) later also e =
    ap₂ (λ mask ranges. if mask == 0 then ranges else Some register) (same.registers register) e

same_base : (labels others : LabelMap) → SameMap labels others → (ranges : List Range) →
    secret_base ranges labels ≡ secret_base ranges others
unfolding secret_base
same_base labels others same [] = refl
same_base labels others same (range ∷ ranges) =
    base_or_same labels others same range.base (secret_base ranges labels) (secret_base ranges others)
    (same_base labels others same ranges)

same_base_of : (labels others : LabelMap) → SameMap labels others → (kind : Kind) →
    secret_base_of kind labels ≡ secret_base_of kind others
same_base_of labels others same (Enters region) = same_base labels others same region.ranges
same_base_of labels others same (Leaves region) = refl
same_base_of labels others same (Steps region) = refl

module _ (rules : Rules) (task : Task) (first second : MaskedPlace) (same : SameState task.masks first second) where
  abbrev Turns : Asker Reached → Asker Reached → Type 0
  Turns asker other = AskAlike (AlikeReached task.masks first.crossed second.crossed) asker other

  -- the second place, with the state of the first
  abbrev moved : MaskedPlace
  moved = record second { state = first.state }

  known_at_start : SameKnowledge task.masks first.crossed second.crossed (knowledge_at first) (knowledge_at moved)
  known_at_start = record {
    visits = same.visits;
    labels = record {
      map = record { registers = same.registers; kept = same.kept; bytes = same.bytes };
      first = refl;
      second = refl;
    };
    byte_masks = same.byte_masks;
    status_mask = same.status_mask;
    more = 0;
    grows = grows_none first.crossed;
    other_grows = grows_none second.crossed;
    equal = λ e. e;
  }

  inside_alike : (outside : Option Outside) (asker other : Asker Reached) → Turns asker other →
      Turns (turn_inside outside asker) (turn_inside outside other)
  inside_alike None asker other both = both
  inside_alike (Some outside) asker other both = refl

  from_alike : (base also : Option ℕ) → base ≡ also → (region : ℕ) (asker other : Asker Reached) → Turns asker other →
      Turns (turn_from base region asker) (turn_from also region other)
  from_alike base also e region asker other both =
      subst (λ b. Turns (turn_from base region asker) (turn_from b region other)) e (by base)
    where
      by : (b : Option ℕ) → Turns (turn_from b region asker) (turn_from b region other)
      by None = both
      by (Some register) = refl

  kind_alike : (kind : Kind) → Turns (kind_turn rules task kind first) (kind_turn rules task kind moved)
  kind_alike kind =
      from_alike (secret_base_of kind first.labels) (secret_base_of kind second.labels)
      (same_base_of first.labels second.labels
      (record { registers = same.registers; kept = same.kept; bytes = same.bytes }) kind)
      (entered_number kind)
      (turn_inside (kind_outside_range kind first.state)
      (masked rules (cutting_of task kind) (entered_number kind) (knowledge_at first)
      (replay_kind_walk task.enclosures kind first.state)))
      (turn_inside (kind_outside_range kind first.state)
      (masked rules (cutting_of task kind) (entered_number kind) (knowledge_at moved)
      (replay_kind_walk task.enclosures kind first.state)))
      (inside_alike (kind_outside_range kind first.state)
      (masked rules (cutting_of task kind) (entered_number kind) (knowledge_at first)
      (replay_kind_walk task.enclosures kind first.state))
      (masked rules (cutting_of task kind) (entered_number kind) (knowledge_at moved)
      (replay_kind_walk task.enclosures kind first.state))
      (masked_alike rules (cutting_of task kind) first.crossed second.crossed (entered_number kind)
      (replay_kind_walk task.enclosures kind first.state) (knowledge_at first) (knowledge_at moved) known_at_start))

  pub turns_alike : Turns (masked_turn rules task first) (masked_turn rules task second)
  turns_alike =
      subst (λ (state : State). Turns (masked_turn rules task first)
      (masked_turn rules task (record second { state = state }))) same.state
      (kind_alike (kind_of task.enclosures.regions first.state.control))

-- a turn from one place has its like from another with the same state: it takes the same bits
pub alike_turn : (rules : Rules) (task : Task) (first second : MaskedPlace) → SameState task.masks first second →
    (bits : List Bool) (reached : Reached) (rest : List Bool) →
    feed (masked_turn rules task first) bits ≡ Fed' reached rest →
    FedAlike (AlikeReached task.masks first.crossed second.crossed) (masked_turn rules task second) bits reached rest
alike_turn rules task first second same bits reached rest h =
    feed_alike (AlikeReached task.masks first.crossed second.crossed) (masked_turn rules task first)
    (masked_turn rules task second) (turns_alike rules task first second same) bits reached rest h

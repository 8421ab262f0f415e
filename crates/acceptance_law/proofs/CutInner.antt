-- Inside a skipped region that it does not break a turn passes inner points alone.
use Rattle.std.proofs.Common.{◌≡◌, ℕ, ◌==◌, ◌++◌, ◌∷◌, [], Bool, true, false, List}
use Rattle.std.proofs.Common.{refl, sym, ap, ◌∙◌, arith, inl, inr}
use Rattle.std.specs.Prelude.{if◌then◌else◌}
use Rattle.std.specs.List.{AllByRecursion}
use Rattle.std.proofs.lemmas.Bool.{and_from, cases_Bool, cond-false}
use Rattle.flow_base.specs.declared.points.Point.{Point}
use Rattle.flow_base.specs.Points.{is_slot}
use Rattle.flow_base.specs.PointOrders.{is_same}
use Rattle.flow_base.proofs.PointOrders.{one_if_same}
use Rattle.flow_graph.specs.declared.events.Event.{Event}
use Rattle.flow_graph.specs.declared.events.Event.TheVariants.{Pass, Link, FromSecret, Implicit, Out}
use Rattle.rv32im_machine.specs.declared.language.Aim.TheVariants.{Put, Decide}
use Rattle.rv32im_machine.specs.declared.language.Passing.{Passing}
use Rattle.rv32im_machine.specs.State.{Setting, Store}
use Rattle.rv32im_machine.specs.Language.{Turn, Looks, Passes, Decides, Gives, Moves, Saves, Restores, Ends, walked}
use Rattle.rv32im_machine.specs.Language.{Held, put, hold, value_of, values_of, made, work_of, shaped, seen_value}
use Rattle.rv32im_machine.specs.Language.{passing, first_of}
use Rattle.shadow_masks.specs.Pages.{label_of}
use Rattle.run_labels.specs.TurnLabels.{TurnLabels, put_label}
use Rattle.run_labels.specs.Masks.{masks_of, work_mask, mask_of, answers_after, moved_label}
use Rattle.run_labels.specs.Flowing.{flow_events, passing_events, sources_events, aim_events}
use Rattle.run_labels.specs.Traces.{traced, events_in}
use Rattle.acceptance_law.specs.RunCuts.{is_inner, is_instruction_slot, mask_at_event, visit_masks}
use Rattle.acceptance_law.specs.Inputs.{AreBytes, IsProper}
use Rattle.acceptance_law.proofs.GraphEvents.{all_append, all_more}
use Rattle.acceptance_law.proofs.Passings.{made_fits, slot_word}
use Rattle.acceptance_law.proofs.ProperTurns.{HasLimits, limits_put, moved-value, inner_slot}
use Rattle.acceptance_law.proofs.SlotsInsideRegions.{WalkSlots}
use Rattle.acceptance_law.proofs.Turns.{NoPass, NoPasses, none_append, none_sources, none_aim, seen_word}
use Rattle.flow_base.specs.Listed.{is_listed}

-- ---- events that pass inner points alone

abbrev pub IsInnerEvent : List ℕ → Event → Type 0
IsInnerEvent skip (Pass point mask) = (is_inner skip point ≡ true) × (is_slot point.slot ≡ true)
IsInnerEvent skip (Link source target) = Unit {0}
IsInnerEvent skip (FromSecret point) = Unit {0}
IsInnerEvent skip (Implicit point region) = Unit {0}
IsInnerEvent skip (Out region point) = Unit {0}

abbrev pub AreInnerEvents : List ℕ → List Event → Type 0
AreInnerEvents skip events = AllByRecursion (IsInnerEvent skip) events

none_inner : (skip : List ℕ) (event : Event) → NoPass event → IsInnerEvent skip event
none_inner skip (Pass point mask) none = absurd none
none_inner skip (Link source target) none = tt
none_inner skip (FromSecret point) none = tt
none_inner skip (Implicit point region) none = tt
none_inner skip (Out region point) none = tt

pub flows_none : (labels : TurnLabels) (passing : Passing) (test : Bool) →
    NoPasses (if test then [] else flow_events labels passing)
flows_none labels passing true = tt
flows_none labels passing false =
    none_append (sources_events labels passing.point passing.sources) (aim_events passing.point passing.aim)
    (none_sources labels passing.point passing.sources) (none_aim passing.point passing.aim)

passing_inner : (skip : List ℕ) (labels : TurnLabels) (answer : ℕ) (passing : Passing) →
    is_inner skip passing.point ≡ true → is_slot passing.point.slot ≡ true →
    AreInnerEvents skip (passing_events labels answer passing)
passing_inner skip labels answer passing inner slot = (
  (inner, slot),
  all_more NoPass (IsInnerEvent skip) (λ event none. none_inner skip event none) _
      (flows_none labels passing (mask_of labels answer passing == 0)),
)

point_inner : (skip : List ℕ) (region : ℕ) (point : Point) → is_listed skip region ≡ true → point.region ≡ region →
    is_instruction_slot point.slot ≡ true → is_inner skip point ≡ true
point_inner skip region point stands inside slot =
    and_from (is_listed skip point.region) (is_instruction_slot point.slot) (ap (is_listed skip) inside ∙ stands) slot

-- the turn of an instruction in a skipped region passes such points alone, where it is no call
module _ (setting : Setting) (secret : List ℕ) (bytes : AreBytes secret) (skip : List ℕ) (region : ℕ)
    (stands : is_listed skip region ≡ true) where
  pub turn-inner : (turn : Turn) (labels : TurnLabels) (answers : List ℕ) (store : Store) (held : Held) →
      IsProper setting.base region turn → HasLimits setting.base store held →
      WalkSlots (walked setting secret turn store held) →
      AreInnerEvents skip (events_in labels answers (walked setting secret turn store held))
  unfolding IsProper walked traced
  turn-inner (Looks seen go) labels answers store held proper has slots =
      turn-inner (go (seen_value setting.base store seen)) labels answers store held
      (proper.1 (seen_value setting.base store seen) (seen_word setting.base store held has.places seen)) has slots
  turn-inner (Passes point place making sources turn) labels answers store held proper has slots =
      let values = values_of setting secret store held sources in
      let mask = work_mask (work_of making values) (masks_of labels sources) (first_of answers) in
      let value = made_fits setting secret bytes store held has.places point making sources proper.0.named
      proper.0.fits in
      let width = proper.1.1 in
      all_append (IsInnerEvent skip)
      (passing_events labels (first_of answers) (passing point (Put place) making sources values)) _
      (passing_inner skip labels (first_of answers) (passing point (Put place) making sources values)
      (point_inner skip region point stands proper.0.inside slots.0)
      (inner_slot point.slot proper.0.no_output))
      (turn-inner turn (put_label place (label_of mask point) labels) (answers_after (work_of making values) answers)
      (put setting.base place (made making values) store) (hold place (made making values) held) proper.2
      (limits_put setting.base place (made making values) store held (omega (arith, value, width)) has) slots.1)
  turn-inner (Decides point making sources go) labels answers store held proper has slots =
      let values = values_of setting secret store held sources in
      let value = made_fits setting secret bytes store held has.places point making sources proper.0.named
      proper.0.fits in
      all_append (IsInnerEvent skip)
      (passing_events labels (first_of answers) (passing point Decide making sources values)) _
      (passing_inner skip labels (first_of answers) (passing point Decide making sources values)
      (point_inner skip region point stands proper.0.inside slots.0)
      (inner_slot point.slot proper.0.no_output))
      (turn-inner (go (made making values)) labels (answers_after (work_of making values) answers) store held
      (proper.1 (made making values) (slot_word point.slot (made making values) value)) has slots.1)
  turn-inner (Gives point place turn) labels answers store held proper has slots = absurd proper
  turn-inner (Moves place shape source turn) labels answers store held proper has slots =
      let value = shaped shape (value_of setting secret store held source ∷ []) in
      turn-inner turn (put_label place (moved_label labels shape source) labels) answers
      (put setting.base place value store) (hold place value held) proper.1
      (limits_put setting.base place value store held
      (moved-value setting secret bytes store held place shape source has proper.0) has) slots
  turn-inner (Saves turn) labels answers store held proper has slots = absurd proper
  turn-inner (Restores registers turn) labels answers store held proper has slots = absurd proper
  turn-inner (Ends control) labels answers store held proper has slots = tt

-- ---- they are no visits of other points

same_inner : (skip : List ℕ) (p q : Point) → is_same p q ≡ true → is_inner skip p ≡ is_inner skip q
same_inner skip p q same = ap (is_inner skip) (one_if_same p q same)

event_elsewhere : (skip : List ℕ) (point : Point) (event : Event) → is_inner skip point ≡ false →
    is_slot point.slot ≡ true → IsInnerEvent skip event → mask_at_event point event ≡ []
event_elsewhere skip point (Pass other mask) outside slot inner = elim (cases_Bool (is_same point other)) [
  | inl same ↦
      let alike = same_inner skip point other same in
      let no : false ≡ true = sym outside ∙ alike ∙ inner.0 in absurd (cc)
  | inr apart ↦ cond-false (is_same point other) (mask ∷ []) [] apart
]
event_elsewhere skip point (Link source target) outside slot inner = refl
event_elsewhere skip point (FromSecret other) outside slot inner = refl
event_elsewhere skip point (Implicit other region) outside slot inner = refl
event_elsewhere skip point (Out region other) outside slot inner = refl

pub events_elsewhere : (skip : List ℕ) (point : Point) (events : List Event) → is_inner skip point ≡ false →
    is_slot point.slot ≡ true → AreInnerEvents skip events → visit_masks point events ≡ []
unfolding visit_masks
events_elsewhere skip point [] outside slot inner = refl
events_elsewhere skip point (event ∷ events) outside slot inner =
    ap (λ masks. masks ++ visit_masks point events) (event_elsewhere skip point event outside slot inner.0)
    ∙ events_elsewhere skip point events outside slot inner.1

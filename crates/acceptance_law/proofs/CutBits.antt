-- The bits that cross a cut of a run are no more than the bits that pass the split points of its side.
use Rattle.std.proofs.Common.{◌≡◌, ℕ, suc, ◌+◌, ◌≤◌, ◌==◌, ◌&&◌, ◌++◌, ◌∷◌, [], Bool, true, false, cond, not, List}
use Rattle.std.proofs.Common.{length, refl, sym, ap, ◌∙◌, subst, arith, inl, inr, append_assoc, append-nil}
use Rattle.std.proofs.Common.{length-append}
use Rattle.std.specs.Prelude.{if◌then◌else◌}
use Rattle.std.specs.List.{AllByRecursion, list_all, sum_by}
use Rattle.std.proofs.lemmas.Bool.{and_parts, cases_Bool, cond-true}
use Rattle.std.proofs.lemmas.List.Sums.{sum_by-append, sum_by-cons}
use Rattle.flow_base.specs.declared.points.Point.{Point}
use Rattle.flow_base.specs.Points.{is_slot}
use Rattle.flow_base.specs.Words.{bit_count, bits_under}
use Rattle.crossing_bits.proofs.Places.{length_bits_under}
use Rattle.cut_file.specs.Cuts.{CutPicture, has_slot}
use Rattle.flow_base.specs.PointOrders.{is_same}
use Rattle.flow_graph.specs.declared.events.Event.{Event}
use Rattle.flow_graph.specs.declared.events.Event.TheVariants.{Pass, Link, FromSecret, Implicit, Out}
use Rattle.flow_graph.proofs.MaskBitCounts.{bit_count_zero}
use Rattle.lockstep_replay.specs.Crossing.{crossing}
use Rattle.region_machine.specs.Runs.{passed}
use Rattle.replay_machine.specs.Runs.{Masks, times_passed, mask_at}
use Rattle.rv32im_machine.specs.Language.{Walk, Looked, Passed, Moved, Saved, Restored, Ended, first_of}
use Rattle.run_labels.specs.TurnLabels.{TurnLabels, put_label, save_labels, restore_labels}
use Rattle.run_labels.specs.Masks.{mask_of, answers_after, labels_after, moved_label}
use Rattle.run_labels.specs.Flowing.{flow_events, passing_events}
use Rattle.run_labels.specs.Traces.{traced, events_in}
use Rattle.acceptance_law.specs.Sides.{NamedSide, is_split}
use Rattle.acceptance_law.specs.RunCuts.{is_inner, names_point, mask_at_event, visit_masks, HasVisitMasks}
use Rattle.acceptance_law.specs.ClosedEvents.{IsProperEvent, AreProperEvents}
use Rattle.acceptance_law.specs.GraphLaws.{split_bits}
use Rattle.acceptance_law.proofs.CutInner.{AreInnerEvents, events_elsewhere, flows_none}
use Rattle.acceptance_law.proofs.CutVisits.{IsLike, visit_masks_append, visit_more, like_exact}
use Rattle.acceptance_law.proofs.GraphEvents.{all_parts}
use Rattle.acceptance_law.proofs.Turns.{NoPass, NoPasses}

-- ---- the visits of the points that are no inner ones

abbrev pub CountsOutside : List ℕ → List Point → List Event → Type 0
CountsOutside skip past seen =
    (point : Point) → is_inner skip point ≡ false → is_slot point.slot ≡ true →
    times_passed point past ≡ length (visit_masks point seen)

no_mask : (point : Point) (event : Event) → NoPass event → mask_at_event point event ≡ []
no_mask point (Pass other mask) none = absurd none
no_mask point (Link source target) none = refl
no_mask point (FromSecret other) none = refl
no_mask point (Implicit other region) none = refl
no_mask point (Out region other) none = refl

no_visits : (point : Point) (events : List Event) → NoPasses events → visit_masks point events ≡ []
unfolding visit_masks
no_visits point [] none = refl
no_visits point (event ∷ events) none =
    ap (λ masks. masks ++ visit_masks point events) (no_mask point event none.0) ∙ no_visits point events none.1

no_split : (side : NamedSide) (event : Event) → NoPass event → split_bits side event ≡ 0
no_split side (Pass point mask) none = absurd none
no_split side (Link source target) none = refl
no_split side (FromSecret point) none = refl
no_split side (Implicit point region) none = refl
no_split side (Out region point) none = refl

-- the visits of a passing with its flows
visits_of : (point other : Point) (mask : ℕ) (flows : List Event) → NoPasses flows →
    visit_masks point (Pass other mask ∷ flows) ≡ cond (is_same point other) (mask ∷ []) []
unfolding visit_masks
visits_of point other mask flows none =
    ap (λ masks. cond (is_same point other) (mask ∷ []) [] ++ masks) (no_visits point flows none)
    ∙ append-nil (cond (is_same point other) (mask ∷ []) [])

counts_passing : (skip : List ℕ) (past : List Point) (seen flows : List Event) (other : Point) (mask : ℕ) →
    is_slot other.slot ≡ true → NoPasses flows → CountsOutside skip past seen →
    CountsOutside skip (other ∷ past) (seen ++ (Pass other mask ∷ flows))
counts_passing skip past seen flows other mask known none counts =
    λ point outside slot.
    visit_more other point mask (times_passed point past) (visit_masks point seen) known slot
    (counts point outside slot)
    ∙ ap length (sym (visit_masks_append point seen (Pass other mask ∷ flows)
    ∙ ap (λ masks. visit_masks point seen ++ masks) (visits_of point other mask flows none)))

pub counts_inner : (skip : List ℕ) (past : List Point) (seen more : List Event) → AreInnerEvents skip more →
    CountsOutside skip past seen → CountsOutside skip past (seen ++ more)
counts_inner skip past seen more inner counts =
    λ point outside slot. counts point outside slot
    ∙ ap length (sym (visit_masks_append point seen more
    ∙ ap (λ masks. visit_masks point seen ++ masks) (events_elsewhere skip point more outside slot inner)
    ∙ append-nil (visit_masks point seen)))

-- ---- one turn

module _ (side : NamedSide) (cut : CutPicture)
    (points : (point : Point) → names_point cut.points point ≡ (is_split side point && not (is_inner cut.skip point)))
    (slots : list_all has_slot cut.points ≡ true) (masks : Masks) (like : IsLike cut.points masks) where
  -- the bits that cross at one visit
  visit_bits : (seen rest : List Event) (past : List Point) (point : Point) (mask value : ℕ) →
      AllByRecursion (HasVisitMasks (seen ++ (Pass point mask ∷ rest))) cut.points → IsProperEvent (Pass point mask) →
      CountsOutside cut.skip past seen →
      length (bits_under value (mask_at masks past point)) ≤ split_bits side (Pass point mask)
  visit_bits seen rest past point mask value have proper counts = elim (cases_Bool (names_point cut.points point)) [
    | inl named ↦
        let both = and_parts (is_split side point) (not (is_inner cut.skip point)) (sym (points point) ∙ named) in
        let outside : is_inner cut.skip point ≡ false = false_if_not (is_inner cut.skip point) both.1 in
        let exact : mask_at masks past point ≡ mask =
        like_exact cut.points masks like seen rest past point mask have slots proper (counts point outside proper.1) named in
        let bits : length (bits_under value (mask_at masks past point)) ≡ bit_count mask =
        length_bits_under value (mask_at masks past point) ∙ ap (λ m. bit_count m) exact in
        let all : cond (is_split side point) (bit_count mask) 0 ≡ bit_count mask =
        cond-true (is_split side point) (bit_count mask) 0 both.0 in
        omega (arith, bits, all)
    | inr other ↦
        let none : mask_at masks past point ≡ 0 =
        like.missing point (suc (times_passed point past)) proper.1 other in
        let bits : length (bits_under value (mask_at masks past point)) ≡ 0 =
        length_bits_under value (mask_at masks past point) ∙ ap (λ m. bit_count m) none
        ∙ bit_count_zero in
        omega (arith, bits)
  ]
    where
      false_if_not : (b : Bool) → not b ≡ true → b ≡ false
      false_if_not true e = absurd (cc)
      false_if_not false e = refl

  split-flows : (events : List Event) → NoPasses events → sum_by (split_bits side) events ≡ 0
  split-flows [] none = omega arith
  split-flows (event ∷ events) none =
      let all = sum_by-cons (split_bits side) event events in
      let here = no_split side event none.0 in
      let rest = split-flows events none.1 in omega (arith, all, here, rest)

  -- what holds of a turn, walked after these points and events
  pub record CrossesTurn (past : List Point) (seen : List Event) (walk : Walk) (events : List Event) : Type 0 where
    pub bits : length (crossing masks past walk) ≤ sum_by (split_bits side) events
    pub counts : CountsOutside cut.skip (passed past walk) (seen ++ events)

  pub turn-crosses : (seen more : List Event) (past : List Point) (labels : TurnLabels) (answers : List ℕ)
      (walk : Walk) →
      AllByRecursion (HasVisitMasks (seen ++ (events_in labels answers walk ++ more))) cut.points →
      AreProperEvents (events_in labels answers walk) → CountsOutside cut.skip past seen →
      CrossesTurn past seen walk (events_in labels answers walk)
  unfolding traced crossing passed
  turn-crosses seen more past labels answers (Looked look value walk) have proper counts =
      let rest = turn-crosses seen more past labels answers walk have proper counts in
      record { bits = rest.bits; counts = rest.counts }
  turn-crosses seen more past labels answers (Passed passing go) have proper counts =
      let point = passing.point in
      let mask = mask_of labels (first_of answers) passing in
      let flows : List Event = if mask == 0 then [] else flow_events labels passing in
      let none = flows_none labels passing (mask == 0) in
      let next = labels_after labels (first_of answers) passing in
      let later = answers_after passing.work answers in
      let here = passing_events labels (first_of answers) passing in
      let others = events_in next later (go passing.value) in
      let parts = all_parts IsProperEvent here others proper in
      let whole : seen ++ ((here ++ others) ++ more) ≡ (seen ++ here) ++ (others ++ more) =
      ap (λ es. seen ++ es) (append_assoc here others more) ∙ sym (append_assoc seen here (others ++ more)) in
      let first : seen ++ ((here ++ others) ++ more) ≡ seen ++ (Pass point mask ∷ (flows ++ (others ++ more))) =
      ap (λ es. seen ++ es) (append_assoc here others more) in
      let bits = visit_bits seen (flows ++ (others ++ more)) past point mask passing.value
      (subst (λ es. AllByRecursion (HasVisitMasks es) cut.points) first have) parts.0.0 counts in
      let rest = turn-crosses (seen ++ here) more (point ∷ past) next later (go passing.value)
      (subst (λ es. AllByRecursion (HasVisitMasks es) cut.points) whole have) parts.1
      (counts_passing cut.skip past seen flows point mask parts.0.0.1 none counts) in
      let sum : sum_by (split_bits side) (here ++ others)
      ≡ sum_by (split_bits side) here + sum_by (split_bits side) others =
      sum_by-append (split_bits side) here others in
      let one : sum_by (split_bits side) here ≡ split_bits side (Pass point mask) + sum_by (split_bits side) flows =
      sum_by-cons (split_bits side) (Pass point mask) flows in
      let no = split-flows flows none in
      let all : length (bits_under passing.value (mask_at masks past point)
      ++ crossing masks (point ∷ past) (go passing.value))
      ≡ length (bits_under passing.value (mask_at masks past point))
      + length (crossing masks (point ∷ past) (go passing.value)) =
      length-append (bits_under passing.value (mask_at masks past point))
      (crossing masks (point ∷ past) (go passing.value)) in
      let later_bits = rest.bits in
      record {
        bits = omega (arith, sum, one, no, all, bits, later_bits);
        counts = subst (λ es. CountsOutside cut.skip (passed (point ∷ past) (go passing.value)) es)
            (append_assoc seen here others) rest.counts;
      }
  turn-crosses seen more past labels answers (Moved place shape source value walk) have proper counts =
      let rest = turn-crosses seen more past (put_label place (moved_label labels shape source) labels) answers walk
      have proper counts in
      record { bits = rest.bits; counts = rest.counts }
  turn-crosses seen more past labels answers (Saved walk) have proper counts =
      let rest = turn-crosses seen more past (save_labels labels) answers walk have proper counts in
      record { bits = rest.bits; counts = rest.counts }
  turn-crosses seen more past labels answers (Restored registers walk replayed) have proper counts =
      let rest = turn-crosses seen more past (restore_labels registers labels) answers walk have proper counts in
      record { bits = rest.bits; counts = rest.counts }
  turn-crosses seen more past labels answers (Ended state) have proper counts = record {
    bits = omega arith;
    counts = subst (λ es. CountsOutside cut.skip past es) (sym (append-nil seen)) counts;
  }

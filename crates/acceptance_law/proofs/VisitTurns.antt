-- How many points a turn passes, and at which slots, from what its row says.
use Rattle.std.proofs.Common.{◌≡◌, ℕ, ◌+◌, ◌==◌, cond, Bool, true, false, List, [], ◌∷◌, ◌++◌}
use Rattle.std.proofs.Common.{refl, ap, ◌∙◌, arith}
use Rattle.std.specs.Prelude.{if◌then◌else◌}
use Rattle.std.specs.List.{list_all, sum_by}
use Rattle.std.proofs.lemmas.Bool.{and_from, cond-true, cond-false, eq-eqb}
use Rattle.std.proofs.lemmas.List.Sums.{sum_by-append, sum_by-cons}
use Rattle.std.proofs.lemmas.List.Folds.{list_all-append}
use Rattle.flow_base.specs.declared.points.Point.{Point}
use Rattle.flow_base.specs.declared.points.Slot.{Slot}
use Rattle.flow_base.specs.declared.points.Slot.TheVariants as slot
use Rattle.flow_base.specs.Points.{is_slot, width_of, is_output_slot}
use Rattle.flow_graph.specs.declared.events.Event.{Event}
use Rattle.flow_graph.specs.declared.events.Event.TheVariants as event
use Rattle.rv32im_machine.specs.declared.language.Aim.{Aim}
use Rattle.rv32im_machine.specs.declared.language.Aim.TheVariants.{Put, Decide, Give}
use Rattle.rv32im_machine.specs.declared.language.Passing.{Passing}
use Rattle.rv32im_machine.specs.declared.language.Place.{Place as ThePlace}
use Rattle.rv32im_machine.specs.declared.language.Shape.TheVariants.{Copied}
use Rattle.rv32im_machine.specs.declared.language.Source.{Source}
use Rattle.rv32im_machine.specs.declared.language.Source.TheVariants.{At, Constant, Secret}
use Rattle.rv32im_machine.specs.declared.language.Sources.{Sources}
use Rattle.rv32im_machine.specs.declared.language.Sources.TheVariants.{One, Two, Byte as BytesOne, Half as BytesTwo}
use Rattle.rv32im_machine.specs.declared.language.Sources.TheVariants.{Word as BytesFour}
use Rattle.rv32im_machine.specs.State.{State, Setting, Store, saved}
use Rattle.rv32im_machine.specs.Language.{Turn, Looks, Passes, Decides, Gives, Moves, Saves, Restores, Ends, Shaped}
use Rattle.rv32im_machine.specs.Language.{Held, first_of, hold, passing, put, seen_value, shaped, value_of, values_of}
use Rattle.rv32im_machine.specs.Language.{at_place, walked}
use Rattle.rv32im_machine.specs.Folds.{real_end}
use Rattle.shadow_masks.specs.declared.labels.Label.{Label}
use Rattle.run_labels.specs.TurnLabels.{TurnLabels, label_at, put_label, restore_labels, save_labels}
use Rattle.run_labels.specs.Masks.{answers_after, labels_after, mask_of, moved_label}
use Rattle.run_labels.specs.Flowing.{aim_events, byte_events, flow_events, link_from, passing_events}
use Rattle.run_labels.specs.Traces.{traced, events_in}
use Rattle.run_labels.specs.Flowing.{source_events, sources_events}
use Rattle.acceptance_law.specs.SecretBits.{is_secret_slot}
use Rattle.acceptance_law.specs.VisitLaws.{is_at_slot}
use Rattle.acceptance_law.proofs.RowCounts.{Counts, Has, Limits}

-- ---- what events say of passings

abbrev pub one_unless : Bool → ℕ
one_unless true = 0
one_unless false = 1

-- an event that passes a point, outputs of regions left out
abbrev pub inner_visit : Event → ℕ
inner_visit (event.Pass point mask) = one_unless (is_output_slot point.slot)
inner_visit (event.Link source target) = 0
inner_visit (event.FromSecret point) = 0
inner_visit (event.Implicit point region) = 0
inner_visit (event.Out region point) = 0

abbrev pub inner_visits : List Event → ℕ
inner_visits events = sum_by inner_visit events

-- an output passes with every bit of its slot
abbrev pub is_whole : Event → Bool
is_whole (event.Pass point mask) = cond (is_output_slot point.slot) (mask == width_of point.slot) true
is_whole (event.Link source target) = true
is_whole (event.FromSecret point) = true
is_whole (event.Implicit point region) = true
is_whole (event.Out region point) = true

-- events of so many passings, outputs of regions left out
pub record Adds (Known : Type 0) (count : ℕ) (events : List Event) : Type 0 where
  pub visits : inner_visits events ≡ count
  pub known : Known → list_all is_at_slot events ≡ true
  pub whole : list_all is_whole events ≡ true

-- ---- what flows passes nothing

abbrev is_flow : Event → Bool
is_flow (event.Pass point mask) = false
is_flow (event.Link source target) = true
is_flow (event.FromSecret point) = true
is_flow (event.Implicit point region) = true
is_flow (event.Out region point) = true

-- events that pass no point
record IsFlow (events : List Event) : Type 0 where
  only : list_all is_flow events ≡ true

adds_none : (Known : Type 0) (events : List Event) → IsFlow events → Adds Known 0 events
adds_none Known events f = go events f.only
  where
    go : (events : List Event) → list_all is_flow events ≡ true → Adds Known 0 events
    go [] e = record { visits = refl; known = λ k. refl; whole = refl }
    go (event.Pass point mask ∷ more) e = absurd (cc)
    go (event.Link source target ∷ more) e =
        let a = go more e in record { visits = a.visits; known = a.known; whole = a.whole }
    go (event.FromSecret point ∷ more) e =
        let a = go more e in record { visits = a.visits; known = a.known; whole = a.whole }
    go (event.Implicit point region ∷ more) e =
        let a = go more e in record { visits = a.visits; known = a.known; whole = a.whole }
    go (event.Out region point ∷ more) e =
        let a = go more e in record { visits = a.visits; known = a.known; whole = a.whole }

flow_none : IsFlow []
flow_none = record { only = refl }

flow_append : (es fs : List Event) → IsFlow es → IsFlow fs → IsFlow (es ++ fs)
flow_append es fs e f = record { only = list_all-append is_flow es fs ∙ and_from _ _ e.only f.only }

flow_link : (label : Label) (point : Point) → IsFlow (link_from label point)
flow_link label point = pick (label.mask == 0)
  where
    pick : (b : Bool) → IsFlow (if b then [] else event.Link label.point point ∷ [])
    pick true = flow_none
    pick false = record { only = refl }

flow_source : (labels : TurnLabels) (point : Point) (source : Source) → IsFlow (source_events labels point source)
flow_source labels point (At place) = flow_link (label_at labels place) point
flow_source labels point (Constant value) = flow_none
flow_source labels point (Secret index) = record { only = refl }

flow_byte : (labels : TurnLabels) (point : Point) (address : ℕ) → IsFlow (byte_events labels point address)
flow_byte labels point address = flow_link (labels.map.bytes address) point

flow_sources : (labels : TurnLabels) (point : Point) (sources : Sources) →
    IsFlow (sources_events labels point sources)
flow_sources labels point (One source) = flow_source labels point source
flow_sources labels point (Two first second) =
    flow_append _ _ (flow_source labels point first) (flow_source labels point second)
flow_sources labels point (BytesOne address) = flow_byte labels point address
flow_sources labels point (BytesTwo address) =
    flow_append _ _ (flow_byte labels point address) (flow_byte labels point (address + 1))
flow_sources labels point (BytesFour address) =
    flow_append _ _ (flow_byte labels point address)
    (flow_append _ _ (flow_byte labels point (address + 1))
    (flow_append _ _ (flow_byte labels point (address + 2)) (flow_byte labels point (address + 3))))

flow_aim : (point : Point) (aim : Aim) → IsFlow (aim_events point aim)
flow_aim point (Put place) = flow_none
flow_aim point Decide = record { only = refl }
flow_aim point (Give place) = record { only = refl }

flow_if : (b : Bool) (events : List Event) → IsFlow events → IsFlow (if b then [] else events)
flow_if true events f = flow_none
flow_if false events f = f

-- ---- a passing

inner_slot : (s : Slot) → is_output_slot s ≡ false → is_slot s ≡ true
inner_slot (slot.OutReg register) e = absurd (cc)
inner_slot (slot.OutRange range) e = absurd (cc)
inner_slot s e = refl

module _ (Known : Type 0) (labels : TurnLabels) (answer : ℕ) where
  rest_none : (p : Passing) →
      Adds Known 0 (if mask_of labels answer p == 0 then [] else flow_events labels p)
  rest_none p =
      adds_none Known _ (flow_if (mask_of labels answer p == 0) (flow_events labels p)
      (flow_append _ _ (flow_sources labels p.point p.sources) (flow_aim p.point p.aim)))

  adds_inner : (p : Passing) → is_output_slot p.point.slot ≡ false → Adds Known 1 (passing_events labels answer p)
  adds_inner p e =
      let rest = rest_none p in
      let one : one_unless (is_output_slot p.point.slot) ≡ 1 = ap one_unless e in
      record {
        visits = rw (sum_by-cons inner_visit) (omega (arith, one, rest.visits));
        known = λ k. and_from _ _ (inner_slot p.point.slot e) (rest.known k);
        whole = and_from _ _
            (cond-false (is_output_slot p.point.slot) (mask_of labels answer p == width_of p.point.slot)
            true e) rest.whole;
      }

  adds_output : (point : Point) (place : ThePlace) (values : List ℕ) → is_output_slot point.slot ≡ true →
      (Known → is_slot point.slot ≡ true) →
      Adds Known 0
      (passing_events labels answer (passing point (Give place) (Shaped Copied) (One (At place)) values))
  adds_output point place values e known =
      let p = passing point (Give place) (Shaped Copied) (One (At place)) values in
      let rest = rest_none p in
      let none : one_unless (is_output_slot point.slot) ≡ 0 = ap one_unless e in
      let same : (mask_of labels answer p == width_of point.slot) ≡ true =
      eq-eqb (mask_of labels answer p) (width_of point.slot) refl in
      record {
        visits = rw (sum_by-cons inner_visit) (omega (arith, none, rest.visits));
        known = λ k. and_from _ _ (known k) (rest.known k);
        whole = and_from _ _ (cond-true (is_output_slot point.slot) (mask_of labels answer p == width_of point.slot)
            true e ∙ same) rest.whole;
      }

-- ---- a turn

-- what a turn adds to so many passings
pub record Tallied (Known : Type 0) (limits : Limits) (setting : Setting) (used : ℕ) (events : List Event)
    (after : State) : Type 0 where
  pub has : Has limits (inner_visits events + used) after.control
  pub known : Known → list_all is_at_slot events ≡ true
  pub whole : list_all is_whole events ≡ true
  pub stays : after.setting ≡ setting

tallied_more : (Known : Type 0) (limits : Limits) (setting : Setting) (used count : ℕ) (es fs : List Event)
    (after : State) → Adds Known count es → Tallied Known limits setting (used + count) fs after →
    Tallied Known limits setting used (es ++ fs) after
tallied_more Known limits setting used count es fs after a t =
    let sum : inner_visits (es ++ fs) ≡ inner_visits es + inner_visits fs = sum_by-append inner_visit es fs in
    record {
      has = (omega (arith, sum, a.visits, t.has.0), t.has.1, t.has.2);
      known = λ k. list_all-append is_at_slot es fs ∙ and_from _ _ (a.known k) (t.known k);
      whole = list_all-append is_whole es fs ∙ and_from _ _ a.whole t.whole;
      stays = t.stays;
    }

tallied_still : (Known : Type 0) (limits : Limits) (setting : Setting) (used : ℕ) (es fs : List Event)
    (after : State) → Adds Known 0 es → Tallied Known limits setting used fs after →
    Tallied Known limits setting used (es ++ fs) after
tallied_still Known limits setting used es fs after a t =
    let sum : inner_visits (es ++ fs) ≡ inner_visits es + inner_visits fs = sum_by-append inner_visit es fs in
    record {
      has = (omega (arith, sum, a.visits, t.has.0), t.has.1, t.has.2);
      known = λ k. list_all-append is_at_slot es fs ∙ and_from _ _ (a.known k) (t.known k);
      whole = list_all-append is_whole es fs ∙ and_from _ _ a.whole t.whole;
      stays = t.stays;
    }

module _ (Known : Type 0) (limits : Limits) (setting : Setting) (secret : List ℕ) where
  pub turn_tallied : (turn : Turn) (count used : ℕ) (store : Store) (held : Held) (labels : TurnLabels)
      (answers : List ℕ) → Counts Known limits count used turn →
      Tallied Known limits setting used (events_in labels answers (walked setting secret turn store held))
      (real_end (walked setting secret turn store held))
  unfolding Counts walked traced real_end
  turn_tallied (Looks seen go) count used store held labels answers f =
      turn_tallied (go (seen_value setting.base store seen)) count used store held labels answers
      (f (seen_value setting.base store seen))
  turn_tallied (Passes point place making sources turn) count used store held labels answers f =
      let p = passing point (Put place) making sources (values_of setting secret store held sources) in
      tallied_more Known limits setting used 1 _ _ _ (adds_inner Known labels (first_of answers) p f.0)
      (turn_tallied turn (cond (is_secret_slot point.slot) (count + 1) count) (used + 1)
      (put setting.base place p.value store) (hold place p.value held)
      (labels_after labels (first_of answers) p) (answers_after p.work answers) f.2)
  turn_tallied (Decides point making sources go) count used store held labels answers f =
      let p = passing point Decide making sources (values_of setting secret store held sources) in
      tallied_more Known limits setting used 1 _ _ _ (adds_inner Known labels (first_of answers) p f.0)
      (turn_tallied (go p.value) count (used + 1) store held (labels_after labels (first_of answers) p)
      (answers_after p.work answers) (f.3 p.value))
  turn_tallied (Gives point place turn) count used store held labels answers f =
      let values = at_place setting.base store held place ∷ [] in
      let p = passing point (Give place) (Shaped Copied) (One (At place)) values in
      tallied_still Known limits setting used _ _ _
      (adds_output Known labels (first_of answers) point place values f.0 f.2)
      (turn_tallied turn count used (put setting.base place p.value store) (hold place p.value held)
      (labels_after labels (first_of answers) p) (answers_after p.work answers) f.3)
  turn_tallied (Moves place shape source turn) count used store held labels answers f =
      let value = shaped shape (value_of setting secret store held source ∷ []) in
      turn_tallied turn count used (put setting.base place value store) (hold place value held)
      (put_label place (moved_label labels shape source) labels) answers f
  turn_tallied (Saves turn) count used store held labels answers f =
      turn_tallied turn count used (saved store) held (save_labels labels) answers f
  turn_tallied (Restores registers turn) count used store held labels answers f =
      turn_tallied turn count used store held (restore_labels registers labels) answers f
  turn_tallied (Ends control) count used store held labels answers f =
      record { has = (omega (arith, f.1.0), f.1.1, f.1.2); known = λ k. refl; whole = refl; stays = refl }

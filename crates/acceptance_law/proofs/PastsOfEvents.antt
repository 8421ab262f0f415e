-- The points that the events of a run have passed are those of its turns; and what is contained in a run's events is so
-- in each part of them.
use Rattle.std.proofs.Common.{◌≡◌, ℕ, List, [], ◌∷◌, ◌++◌, refl, ap, ◌∙◌}
use Rattle.std.specs.Prelude.{◌==◌, if◌then◌else◌}
use Rattle.flow_base.specs.declared.points.Point.{Point}
use Rattle.flow_graph.specs.declared.events.Event.{Event}
use Rattle.flow_graph.specs.declared.events.Event.TheVariants.{Pass, Link, FromSecret, Implicit, Out}
use Rattle.rv32im_machine.specs.Language.{Walk, Looked, Passed, Moved, Saved, Restored, Ended, first_of}
use Rattle.region_machine.specs.Runs.{passed}
use Rattle.replay_machine.specs.Runs.{Masks}
use Rattle.run_labels.specs.TurnLabels.{TurnLabels, put_label, save_labels, restore_labels}
use Rattle.run_labels.specs.Masks.{mask_of, answers_after, labels_after, moved_label}
use Rattle.run_labels.specs.Flowing.{flow_events, sources_events, aim_events}
use Rattle.run_labels.specs.Traces.{traced, events_in}
use Rattle.acceptance_law.specs.Sides.{NamedSide}
use Rattle.acceptance_law.specs.Covers.{AreContained, past_after}
use Rattle.acceptance_law.proofs.Turns.{none_if, NoPass, NoPasses, none_append, none_sources, none_aim}

-- the points that have been passed after these events
unfoldable pub pasts : List Event → List Point → List Point
pasts [] past = past
pasts (event ∷ events) past = pasts events (past_after event past)

pub pasts_append : (es fs : List Event) (past : List Point) → pasts (es ++ fs) past ≡ pasts fs (pasts es past)
unfolding pasts
pasts_append [] fs past = refl
pasts_append (e ∷ es) fs past = pasts_append es fs (past_after e past)

no_past : (e : Event) (past : List Point) → NoPass e → past_after e past ≡ past
no_past (Pass point mask) past h = absurd h
no_past (Link source target) past h = refl
no_past (FromSecret point) past h = refl
no_past (Implicit point region) past h = refl
no_past (Out region point) past h = refl

pasts_none : (es : List Event) (past : List Point) → NoPasses es → pasts es past ≡ past
unfolding pasts
pasts_none [] past h = refl
pasts_none (e ∷ es) past h = ap (λ p. pasts es p) (no_past e past h.0) ∙ pasts_none es past h.1

-- the events of a turn pass what the turn passes
pub events_past : (walk : Walk) (labels : TurnLabels) (answers : List ℕ) (past : List Point) →
    pasts (events_in labels answers walk) past ≡ passed past walk
unfolding pasts traced passed
events_past (Looked seen value walk) labels answers past = events_past walk labels answers past
events_past (Passed passing go) labels answers past =
    let m = mask_of labels (first_of answers) passing in
    let flows = flow_events labels passing in
    let later = labels_after labels (first_of answers) passing in
    let left = answers_after passing.work answers in
    pasts_append (if m == 0 then [] else flows) (events_in later left (go passing.value)) (passing.point ∷ past)
    ∙ ap (λ p. pasts (events_in later left (go passing.value)) p)
    (pasts_none (if m == 0 then [] else flows) (passing.point ∷ past) (none_if (m == 0) flows
    (none_append (sources_events labels passing.point passing.sources) (aim_events passing.point passing.aim)
    (none_sources labels passing.point passing.sources) (none_aim passing.point passing.aim))))
    ∙ events_past (go passing.value) later left (passing.point ∷ past)
events_past (Moved place shape source value walk) labels answers past =
    events_past walk (put_label place (moved_label labels shape source) labels) answers past
events_past (Saved walk) labels answers past = events_past walk (save_labels labels) answers past
events_past (Restored registers walk back) labels answers past =
    events_past walk (restore_labels registers labels) answers past
events_past (Ended state) labels answers past = refl

pub contained_parts : (side : NamedSide) (skip : List ℕ) (masks : Masks) (es fs : List Event) (past : List Point) →
    AreContained side skip masks past (es ++ fs) →
    AreContained side skip masks past es × AreContained side skip masks (pasts es past) fs
unfolding pasts AreContained
contained_parts side skip masks [] fs past h = (tt, h)
contained_parts side skip masks (e ∷ es) fs past h =
    let rest = contained_parts side skip masks es fs (past_after e past) h.1 in ((h.0, rest.0), rest.1)

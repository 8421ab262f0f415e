-- The events of a run fit into a cut.
use Rattle.std.proofs.Common.{◌≡◌, ℕ, ◌<◌, Bool, true, false, List, [], ◌∷◌, ◌++◌, length, refl, ap, ◌∙◌, arith, cond}
use Rattle.std.specs.List.{list_all}
use Rattle.std.proofs.lemmas.Bool.{and_parts}
use Rattle.flow_base.specs.declared.points.Point.{Point}
use Rattle.flow_base.specs.Points.{is_slot}
use Rattle.flow_base.specs.PointOrders.{is_same}
use Rattle.flow_base.proofs.PointOrders.{one_if_same}
use Rattle.flow_graph.specs.declared.events.Event.{Event}
use Rattle.flow_graph.specs.declared.events.Event.TheVariants.{Pass, Link, FromSecret, Implicit, Out}
use Rattle.acceptance_law.specs.RunCuts.{visit_masks}
use Rattle.acceptance_law.specs.VisitLaws.{FitCutsLaw, is_at_slot}
use Rattle.acceptance_law.proofs.VisitRuns.{few_visits_law, known_slots_law, output_visits_law}

own_slot : (b : Bool) (point other : Point) (mask : ℕ) (masks : List ℕ) → (b ≡ true → is_slot point.slot ≡ true) →
    (0 < length masks → is_slot point.slot ≡ true) →
    0 < length (cond b (mask ∷ []) [] ++ masks) → is_slot point.slot ≡ true
own_slot true point other mask masks own later some = own refl
own_slot false point other mask masks own later some = later some

-- what is passed at all is passed at a slot that turns pass
visited_slots : (point : Point) (events : List Event) → list_all is_at_slot events ≡ true →
    0 < length (visit_masks point events) → is_slot point.slot ≡ true
unfolding visit_masks
visited_slots point [] known some = absurd (omega (arith, some))
visited_slots point (Pass other mask ∷ events) known some =
    let parts = and_parts (is_slot other.slot) (list_all is_at_slot events) known in
    own_slot (is_same point other) point other mask (visit_masks point events)
    (λ same. ap (λ (p : Point). is_slot p.slot) (one_if_same point other same) ∙ parts.0)
    (λ later. visited_slots point events parts.1 later) some
visited_slots point (Link source target ∷ events) known some =
    visited_slots point events (and_parts true (list_all is_at_slot events) known).1 some
visited_slots point (FromSecret other ∷ events) known some =
    visited_slots point events (and_parts true (list_all is_at_slot events) known).1 some
visited_slots point (Implicit other region ∷ events) known some =
    visited_slots point events (and_parts true (list_all is_at_slot events) known).1 some
visited_slots point (Out region other ∷ events) known some =
    visited_slots point events (and_parts true (list_all is_at_slot events) known).1 some

pub fit_cuts_law : FitCutsLaw
fit_cuts_law program public_input secret regions answers valid u turns short = record {
  slots = λ point some. visited_slots point _ (known_slots_law program public_input secret regions answers valid u) some;
  few = λ point inner. few_visits_law program public_input secret regions answers point u turns short inner;
  outputs = λ point output. output_visits_law program public_input secret regions answers point u output;
}

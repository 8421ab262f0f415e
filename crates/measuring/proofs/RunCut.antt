-- The cut of a run and a side of its graph.
use Rattle.std.proofs.Common.{◌≡◌, ℕ, ◌==◌, ◌&&◌, ◌||◌, Bool, true, false, List, [], ◌∷◌, ◌++◌, refl, sym, ap, ◌∙◌}
use Rattle.std.proofs.Common.{cond}
use Rattle.std.proofs.Common.{nat_eq, not}
use Rattle.std.specs.List.{list_all, list_any, AllByRecursion}
use Rattle.std.proofs.lemmas.Bool.{and_parts, eqb-false, ne_eqb}
use Rattle.std.proofs.lemmas.List.Folds.{list_any-append}
use Rattle.cut_file.proofs.Following.{is_so}
use Rattle.cut_file.specs.declared.cuts.Cut.{Cut}
use Rattle.cut_file.specs.declared.points.CutPoint.{CutPoint}
use Rattle.cut_file.specs.Pictures.{cut_picture}
use Rattle.flow_base.specs.declared.points.Point.{Point}
use Rattle.flow_graph.specs.declared.events.Event.{Event}
use Rattle.flow_graph.specs.declared.events.Event.TheVariants.{Pass, Link, FromSecret, Implicit, Out}
use Rattle.flow_graph.specs.declared.graphs.Graph.{Graph}
use Rattle.flow_graph.specs.declared.named_links.NamedEnd.{NamedEnd}
use Rattle.flow_graph.specs.declared.named_links.NamedEnd.TheVariants.{Source, At, Relay, Sink}
use Rattle.flow_graph.specs.EventGraphs.{IsGraphOf, has_passed, is_relay_of, links_after, links_by}
use Rattle.flow_graph.specs.EventGraphs.{names_relay, one_if, outlet_of}
use Rattle.flow_graph.specs.Graphs.{are_relays, ascend, has_capacity, node_cmp}
use Rattle.max_flow.specs.declared.answers.Half.{Half}
use Rattle.acceptance_law.specs.RunCuts.{HasVisitMasks, IsCutOf, united}
use Rattle.acceptance_law.specs.Sides.{named_side}
use Rattle.measuring.specs.declared.kept_visits.KeptVisits.{KeptVisits}
use Rattle.measuring.specs.CutRuns.{HasKeptMasks, once}
use Rattle.measuring.specs.Cutting.{CutsGraph}
use Rattle.measuring.specs.Visits.{HasVisits}
use Rattle.measuring.proofs.CutNames.{cut_names}
use Rattle.measuring.proofs.Splits.{skipped_stand}
use Rattle.flow_base.specs.Listed.{is_listed}

-- ---- region 0 has no relay

no_link : (b : Bool) (s t : NamedEnd) → (is_relay_of 0 s || is_relay_of 0 t) ≡ false →
    list_any (names_relay 0) (one_if b s t) ≡ false
no_link true s t none = ap (λ b. b || false) none
no_link false s t none = refl

no_outlet : (r : ℕ) → is_relay_of 0 (outlet_of r) ≡ false
no_outlet r = by (r == 0) refl
  where
    by : (b : Bool) → (r == 0) ≡ b → is_relay_of 0 (cond b Sink (Relay r)) ≡ false
    by true e = refl
    by false e = ne_eqb 0 r (λ zero. eqb-false r 0 e (sym zero))

no_output : (h z : Bool) (r : ℕ) (p : Point) → (r == 0) ≡ z →
    list_any (names_relay 0) (one_if (h && not z) (Relay r) (At p)) ≡ false
no_output true true r p e = refl
no_output false true r p e = refl
no_output true false r p e =
    no_link true (Relay r) (At p) (ap (λ b. b || false) (ne_eqb 0 r (λ zero. eqb-false r 0 e (sym zero))))
no_output false false r p e = refl

no_relay_by : (has : Point → Bool) (e : Event) → list_any (names_relay 0) (links_by has e) ≡ false
no_relay_by has (Pass p mask) = refl
no_relay_by has (Link s t) = no_link (has s && has t) (At s) (At t) refl
no_relay_by has (FromSecret p) = no_link (has p) Source (At p) refl
no_relay_by has (Implicit p r) = no_link (has p) (At p) (outlet_of r) (no_outlet r)
no_relay_by has (Out r p) = no_output (has p) (r == 0) r p refl

no_relay_after : (before events : List Event) → list_any (names_relay 0) (links_after before events) ≡ false
no_relay_after before [] = refl
no_relay_after before (e ∷ events) =
    list_any-append (names_relay 0) (links_by (has_passed before) e) (links_after (before ++ e ∷ []) events)
    ∙ (ap (λ b. b || list_any (names_relay 0) (links_after (before ++ e ∷ []) events))
    (no_relay_by (has_passed before) e)
    ∙ no_relay_after (before ++ e ∷ []) events)

no_relay_0 : (events : List Event) (graph : Graph) → IsGraphOf events graph → list_any (nat_eq 0) graph.relays ≡ false
no_relay_0 events graph is = is.relays 0 ∙ no_relay_after [] events

-- ---- the lists of a graph ascend

pub nodes_up : (graph : Graph) → ascend node_cmp graph.points ≡ true
nodes_up graph = (and_parts (list_all has_capacity graph.points) (ascend node_cmp graph.points)
    (is_so _ graph.points_ascend)).1

pub capacities_some : (graph : Graph) → list_all has_capacity graph.points ≡ true
capacities_some graph = (and_parts (list_all has_capacity graph.points) (ascend node_cmp graph.points)
    (is_so _ graph.points_ascend)).0

pub relays_up : (graph : Graph) → are_relays graph.relays ≡ true
relays_up graph = is_so _ graph.relays_ascend

-- ---- masks

kept_then_had : (visits : KeptVisits) (events : List Event) → HasVisits visits events → (point : CutPoint) →
    HasKeptMasks visits point → HasVisitMasks events point
kept_then_had visits events has point kept = record {
  masks = kept.masks ∙ has point.point;
  rest = kept.rest ∙ ap (λ masks. once (united masks)) (has point.point);
}

all_had : (visits : KeptVisits) (events : List Event) → HasVisits visits events → (points : List CutPoint) →
    AllByRecursion (HasKeptMasks visits) points → AllByRecursion (HasVisitMasks events) points
all_had visits events has [] all = tt
all_had visits events has (point ∷ points) all =
    (kept_then_had visits events has point all.0, all_had visits events has points all.1)

-- ---- the cut

-- what is made of a run's graph, the visits of its points and a side is the cut of that run and that side
pub cut_is : (visits : KeptVisits) (graph : Graph) (halves : List Half) (relays : List Bool) (length value : ℕ)
    (cut : Cut) → CutsGraph visits graph halves relays length value cut → (events : List Event) →
    HasVisits visits events → IsGraphOf events graph →
    IsCutOf length events (named_side graph halves relays) value (cut_picture cut)
cut_is visits graph halves relays length value cut makes events has is = record {
  version = makes.version;
  length = makes.length;
  bits = makes.bits;
  skip = λ region. ap (λ skip. is_listed skip region) makes.skip ∙ skipped_stand graph.relays relays region
      (relays_up graph) (no_relay_0 events graph is);
  points = λ point. cut_names cut.skip graph.points halves cut.points point (nodes_up graph) makes.points;
  masks = all_had visits events has cut.points makes.masks;
}

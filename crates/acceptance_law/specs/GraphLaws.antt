-- Laws of the graph of a run and of its sides.
use Rattle.std.specs.Prelude.{◌≡◌, ℕ, ◌≤◌, cond, Bool, true, List}
use Rattle.enclosure_regions.specs.declared.region_parts.Region.{Region}
use Rattle.flow_base.specs.Words.{bit_count}
use Rattle.flow_graph.specs.declared.events.Event.{Event}
use Rattle.flow_graph.specs.declared.events.Event.TheVariants.{Pass}
use Rattle.flow_graph.specs.declared.graphs.Graph.{Graph}
use Rattle.flow_graph.specs.EventGraphs.{named_links, passed, IsGraphOf}
use Rattle.max_flow.specs.declared.answers.Half.{Half}
use Rattle.max_flow.specs.Flows.{IsSideOf, side_capacity}
use Rattle.region_machine.specs.Runs.{Place}
use Rattle.run_labels.specs.Runs.{unlabelled, run_after}
use Rattle.std.specs.List.{list_all, sum_by}
use Rattle.cut_file.specs.Cuts.{CutPicture, has_slot}
use Rattle.acceptance_law.specs.RunCuts.{IsCutOf}
use Rattle.acceptance_law.specs.Covers.{Covers}
use Rattle.acceptance_law.specs.Sides.{NamedSide, named_side, is_split}
use Rattle.acceptance_law.specs.ClosedEvents.{IsClosedFor, AreClosedEvents, AreProperEvents}

-- of the events of a run none is passed over: a side that no link of its graph leaves is closed for each event
abbrev pub ClosedEventsLaw : Type 0
ClosedEventsLaw =
    (side : NamedSide) (regions : List Region) (answers : List (List ℕ)) (start : Place) →
    AreProperEvents (run_after regions answers (unlabelled start)).events →
    IsClosedFor side (named_links (run_after regions answers (unlabelled start)).events) →
    AreClosedEvents side (run_after regions answers (unlabelled start)).events

-- no link of some events leaves a side of their graph
abbrev pub ClosedSideLaw : Type 0
ClosedSideLaw =
    (events : List Event) (graph : Graph) (halves : List Half) (relays : List Bool) → IsGraphOf events graph →
    IsSideOf graph halves relays → IsClosedFor (named_side graph halves relays) (named_links events)

-- the capacity of a side of the graph of some events is the sum of the bits that pass its split points
abbrev pub CapacityLaw : Type 0
CapacityLaw =
    (events : List Event) (graph : Graph) (halves : List Half) (relays : List Bool) → IsGraphOf events graph →
    IsSideOf graph halves relays →
    side_capacity graph halves relays
    ≡ sum_by (λ node. cond (is_split (named_side graph halves relays) node.point) (passed events node.point) 0)
    graph.points

-- the bits that an event passes at a split point
abbrev pub split_bits : NamedSide → Event → ℕ
split_bits side (Pass point mask) = cond (is_split side point) (bit_count mask) 0
split_bits side event = 0

-- the bits that pass the split points of a side are no more than its capacity
abbrev pub SplitBitsLaw : Type 0
SplitBitsLaw =
    (events : List Event) (graph : Graph) (halves : List Half) (relays : List Bool) → IsGraphOf events graph →
    IsSideOf graph halves relays →
    sum_by (split_bits (named_side graph halves relays)) events ≤ side_capacity graph halves relays

-- The cut of a run and a side of its graph covers the run by this side, whatever the regions are.
abbrev pub CutCoversLaw : Type 0
CutCoversLaw =
    (regions : List Region) (events : List Event) (graph : Graph) (halves : List Half) (relays : List Bool)
    (secret_len capacity : ℕ) (cut : CutPicture) → IsGraphOf events graph → IsSideOf graph halves relays →
    AreProperEvents events → IsCutOf secret_len events (named_side graph halves relays) capacity cut →
    list_all has_slot cut.points ≡ true → Covers (named_side graph halves relays) regions events cut

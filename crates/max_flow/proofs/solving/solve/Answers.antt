use Rattle.std.proofs.Common.{◌≡◌, length, ap, ◌∙◌}
use Rattle.std.proofs.lemmas.List.{length-map}
use Rattle.max_flow.specs.Private.Networks.{IsFlow, IsSide, source_flow, capacity_of}
use Rattle.max_flow.specs.Private.Rooms.{IsLeast}
use Rattle.max_flow.specs.Private.GraphNetworks.{network_of}
use Rattle.max_flow.specs.Private.Searching.{is_found}
use Rattle.max_flow.proofs.FoundNodesAreMembers.{IsMade}
use Rattle.max_flow.proofs.Graphs.{edges_count}
use Rattle.max_flow.proofs.GraphAnswers.{back_most, capacity_from, flow_from, front_most, greatest_from, least_from}
use Rattle.max_flow.proofs.GraphAnswers.{value_from}
use Rattle.max_flow.proofs.solving.solve.Goals as goal

pub flow_of-requires : goal.flow_of-requires
flow_of-requires c =
    let flow : IsFlow (network_of c.args.graph.now) c.in_ok-value.field-0.flows.items =
    c.in_ok-value.ensures.flow in
    flow.count ∙ edges_count c.args.graph.now

pub returns-clause-flow : goal.returns-clause-flow
returns-clause-flow c =
    let flow : IsFlow (network_of c.args.graph.now) c.in_ok-value.field-0.flows.items =
    c.in_ok-value.ensures.flow in
    flow_from c.args.graph.now c.in_ok-value.field-0.flows.items _ _ flow c.in_ok-flow.ensures.points
    c.in_ok-flow.ensures.links

pub returns-clause-value : goal.returns-clause-value
returns-clause-value c =
    let flow : IsFlow (network_of c.args.graph.now) c.in_ok-value.field-0.flows.items =
    c.in_ok-value.ensures.flow in
    let value : source_flow (network_of c.args.graph.now) c.in_ok-value.field-0.flows.items ≡ c.in_ok-value.field-0.value
    = c.in_ok-value.ensures.value in
    value_from c.args.graph.now c.in_ok-value.field-0.flows.items _ _ flow c.in_ok-flow.ensures.points
    c.in_ok-flow.ensures.links ∙ value

pub returns-clause-points : goal.returns-clause-points
returns-clause-points c = front_most c.in_ok-value.field-0.value (length c.args.graph.now.points)
    c.in_ok-value.field-0.flows.items _ c.in_ok-flow.ensures.points
    c.in_ok-value.ensures.most

pub returns-clause-links : goal.returns-clause-links
returns-clause-links c = back_most c.in_ok-value.field-0.value (length c.args.graph.now.points)
    c.in_ok-value.field-0.flows.items _ c.in_ok-flow.ensures.links
    c.in_ok-value.ensures.most

pub returns-clause-side : goal.returns-clause-side
returns-clause-side c =
    let flow : IsFlow (network_of c.args.graph.now) c.in_ok-value.field-0.flows.items =
    c.in_ok-value.ensures.flow in
    let value : source_flow (network_of c.args.graph.now) c.in_ok-value.field-0.flows.items ≡ c.in_ok-value.field-0.value
    = c.in_ok-value.ensures.value in
    let side : IsSide (network_of c.args.graph.now) (is_found c.in_ok-value.field-0.places.items) =
    c.in_ok-value.ensures.side in
    let capacity : capacity_of (network_of c.args.graph.now) (is_found c.in_ok-value.field-0.places.items) ≡
    c.in_ok-value.field-0.value = c.in_ok-value.ensures.capacity in
    let least : IsLeast (network_of c.args.graph.now) c.in_ok-value.field-0.value
    (is_found c.in_ok-value.field-0.places.items) =
    c.in_ok-value.ensures.least in
    let made : IsMade c.args.graph.now c.in_ok-value.field-0.places.items c.in_ok-side.side.points
    c.in_ok-side.side.relays = record {
      points = rw c.deref.ensures.value at c.in_ok-side.ensures.points;
      relays = rw c.deref.ensures.value at c.in_ok-side.ensures.relays;
      source = side.source;
      sink = side.sink;
    } in
    least_from c.args.graph.now c.in_ok-value.field-0.value c.in_ok-value.field-0.flows.items
    c.in_ok-value.field-0.places.items c.in_ok-side.side.points c.in_ok-side.side.relays flow value made
    c.in_ok-side.ensures.points_count (ap length made.relays ∙ length-map c.args.graph.now.relays _)
    c.in_ok-value.ensures.few side capacity least

pub returns-clause-capacity : goal.returns-clause-capacity
returns-clause-capacity c =
    let side : IsSide (network_of c.args.graph.now) (is_found c.in_ok-value.field-0.places.items) =
    c.in_ok-value.ensures.side in
    let capacity : capacity_of (network_of c.args.graph.now) (is_found c.in_ok-value.field-0.places.items) ≡
    c.in_ok-value.field-0.value = c.in_ok-value.ensures.capacity in
    let made : IsMade c.args.graph.now c.in_ok-value.field-0.places.items c.in_ok-side.side.points
    c.in_ok-side.side.relays = record {
      points = rw c.deref.ensures.value at c.in_ok-side.ensures.points;
      relays = rw c.deref.ensures.value at c.in_ok-side.ensures.relays;
      source = side.source;
      sink = side.sink;
    } in
    capacity_from c.args.graph.now c.in_ok-value.field-0.value c.in_ok-value.field-0.places.items
    c.in_ok-side.side.points c.in_ok-side.side.relays made c.in_ok-side.ensures.points_count capacity

pub returns-clause-greatest : goal.returns-clause-greatest
returns-clause-greatest c =
    let side : IsSide (network_of c.args.graph.now) (is_found c.in_ok-value.field-0.places.items) =
    c.in_ok-value.ensures.side in
    let capacity : capacity_of (network_of c.args.graph.now) (is_found c.in_ok-value.field-0.places.items) ≡
    c.in_ok-value.field-0.value = c.in_ok-value.ensures.capacity in
    greatest_from c.args.graph.now c.in_ok-value.field-0.value c.in_ok-value.field-0.places.items side capacity

-- Parts of which all numbers and slots have a text are a certificate.
use Rattle.std.proofs.Common.{◌≡◌, ◌&&◌, true, List, [], ◌∷◌, refl}
use Rattle.std.specs.List.{list_all}
use Rattle.std.proofs.lemmas.Bool.{and_parts, and_from}
use Rattle.flow_base.specs.Points.{is_slot}
use Rattle.flow_graph.specs.declared.graphs.Graph.{Graph}
use Rattle.flow_graph.specs.declared.nodes.Node.{Node}
use Rattle.max_flow.specs.declared.answers.Solved.{Solved}
use Rattle.flow_certificate.specs.Keeping.{has_name, is_node, is_number, is_placed, is_region_or_outside}
use Rattle.flow_certificate.specs.Pictures.{have_names, have_texts}
use Rattle.std.specs.Prelude.{nat_lt, ◌^◌}

node_named : (node : Node) → is_placed node ≡ true → has_name node ≡ true → is_node node ≡ true
node_named node placed named =
    let place = and_parts (is_region_or_outside node.point.region) (nat_lt node.point.address (2 ^ 32)) placed in
    let name = and_parts (is_number node.capacity) (is_slot node.point.slot) named in
    and_from _ _ name.0 (and_from _ _ place.0 (and_from _ _ place.1 name.1))

pub nodes_named : (nodes : List Node) → list_all is_placed nodes ≡ true → list_all has_name nodes ≡ true →
    list_all is_node nodes ≡ true
nodes_named [] placed named = refl
nodes_named (node ∷ nodes) placed named =
    let place = and_parts (is_placed node) (list_all is_placed nodes) placed in
    let name = and_parts (has_name node) (list_all has_name nodes) named in
    and_from _ _ (node_named node place.0 name.0) (nodes_named nodes place.1 name.1)

pub texts_from_names : (graph : Graph) (solved : Solved) → list_all is_placed graph.points ≡ true →
    list_all is_region_or_outside graph.relays ≡ true → have_names graph solved ≡ true →
    have_texts graph solved ≡ true
texts_from_names graph solved placed relays names =
    let value = and_parts (is_number solved.value) (list_all has_name graph.points
    && (list_all is_number solved.flow.points && list_all is_number solved.flow.links)) names in
    let points = and_parts (list_all has_name graph.points)
    (list_all is_number solved.flow.points && list_all is_number solved.flow.links) value.1 in
    and_from _ _ value.0 (and_from _ _ (nodes_named graph.points placed points.0) (and_from _ _ relays points.1))

-- A graph is what its lists are.
use Rattle.std.proofs.Common.{◌≡◌, ◌∙◌, ℕ, Bool, true, IsTrue, List, length, sym, ap, subst}
use mathlib.Core.Bool.{Bool-set}
use Rattle.flow_graph.specs.declared.ends.Arc.{Arc}
use Rattle.flow_graph.specs.declared.graphs.Graph.{Graph}
use Rattle.flow_graph.specs.declared.nodes.Node.{Node}
use Rattle.flow_graph.specs.Graphs.{are_arcs, are_links, are_points, are_relays}

made_graph : (points : List Node) (relays : List ℕ) (links : List Arc) → IsTrue (are_points points) →
    IsTrue (are_relays relays) → IsTrue (are_arcs links) → IsTrue (are_links (length points) relays links) → Graph
made_graph points relays links a b c d = record {
  points = points;
  relays = relays;
  links = links;
  points_ascend = a;
  relays_ascend = b;
  links_ascend = c;
  links_are_valid = d;
}

true_once : (b : Bool) (first second : IsTrue b) → first ≡ second
true_once b first second = Bool-set b true first second

same_proofs : (graph : Graph) (a : IsTrue (are_points graph.points)) (b : IsTrue (are_relays graph.relays))
    (c : IsTrue (are_arcs graph.links)) (d : IsTrue (are_links (length graph.points) graph.relays graph.links)) →
    made_graph graph.points graph.relays graph.links a b c d ≡ graph
unfolding made_graph
same_proofs graph a b c d =
    ap (λ v. made_graph graph.points graph.relays graph.links v b c d) (true_once _ a graph.points_ascend)
    ∙ (ap (λ v. made_graph graph.points graph.relays graph.links graph.points_ascend v c d)
    (true_once _ b graph.relays_ascend)
    ∙ (ap (λ v. made_graph graph.points graph.relays graph.links graph.points_ascend graph.relays_ascend v d)
    (true_once _ c graph.links_ascend)
    ∙ ap (λ v. made_graph graph.points graph.relays graph.links graph.points_ascend graph.relays_ascend
    graph.links_ascend v) (true_once _ d graph.links_are_valid)))

abbrev IsMade : Graph → List Node → List ℕ → List Arc → Type 0
IsMade graph points relays links =
    (a : IsTrue (are_points points)) (b : IsTrue (are_relays relays)) (c : IsTrue (are_arcs links))
    (d : IsTrue (are_links (length points) relays links)) → made_graph points relays links a b c d ≡ graph

pub same_graph : (graph other : Graph) → graph.points ≡ other.points → graph.relays ≡ other.relays →
    graph.links ≡ other.links → graph ≡ other
unfolding made_graph
same_graph graph other points relays links =
    let of_graph : IsMade graph other.points other.relays other.links =
    subst (λ l. IsMade graph other.points other.relays l) links
    (subst (λ r. IsMade graph other.points r graph.links) relays
    (subst (λ p. IsMade graph p graph.relays graph.links) points (same_proofs graph))) in
    sym (of_graph other.points_ascend other.relays_ascend other.links_ascend other.links_are_valid)

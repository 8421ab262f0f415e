-- A certificate with nothing wrong shows a maximum flow.
use Rattle.std.proofs.Common.{◌≡◌, ◌≤◌, ◌<◌, not, Bool, true, false, length, slice_index, refl, sym, ⊎_elim, arith}
use Rattle.std.proofs.lemmas.Bool.{cases_lt, eqb-true, lt-ltb, ltb-false}
use Rattle.flow_graph.specs.declared.graphs.Graph.{Graph}
use Rattle.max_flow.specs.declared.answers.Solved.{Solved}
use Rattle.max_flow.specs.Flows.{at_point, at_relay, capacities, flow_into, flow_out}
use Rattle.max_flow.proofs.NamedFlows.{unknown_relay}
use Rattle.flow_certificate.specs.declared.verdicts.Member.TheVariants.{In, Out, Relay}
use Rattle.flow_certificate.specs.Verdicts.{HasNoneAcross, HasNoneOver, HasNoneUnbalanced, IsVerified, cut_in, flow_in}

not_not : (b : Bool) → not b ≡ false → b ≡ true
not_not true e = refl
not_not false e = absurd cc

pub verified_of : (graph : Graph) (solved : Solved) → length solved.flow.points ≡ length graph.points →
    length solved.flow.links ≡ length graph.links → length solved.side.points ≡ length graph.points →
    length solved.side.relays ≡ length graph.relays → HasNoneOver graph solved → HasNoneUnbalanced graph solved →
    HasNoneAcross graph solved → flow_in graph solved ≡ solved.value → cut_in graph solved ≡ solved.value →
    IsVerified graph solved solved.value
verified_of graph solved points links halves relays over unbalanced across flow cut = record {
  named = refl;
  flow = record {
    points_count = points;
    links_count = links;
    within = λ i below. ltb-false (slice_index (capacities graph) i) (slice_index solved.flow.points i)
        (over i (omega arith) below);
    into_points = λ i below. eqb-true (flow_into graph solved.flow.links (at_point i)) (slice_index
        solved.flow.points i) (not_not _ (unbalanced (In i) (lt-ltb i (length graph.points) below)));
    out_of_points = λ i below. sym (eqb-true (slice_index solved.flow.points i) (flow_out graph solved.flow.links
        (at_point i)) (not_not _ (unbalanced (Out i) (lt-ltb i (length graph.points) below))));
    through_relays = λ region. ⊎_elim
        (λ (below : region < 65536). eqb-true (flow_into graph solved.flow.links (at_relay region)) (flow_out graph
        solved.flow.links (at_relay region)) (not_not _ (unbalanced (Relay region) (lt-ltb region 65536 below))))
        (λ (past : 65536 ≤ region). unknown_relay graph solved.flow.points solved.flow.links region
        (record { points_count = points; links_count = links }) past)
        (cases_lt region 65536);
  };
  side = record { points_count = halves; relays_count = relays; closed = across };
  flow_value = flow;
  capacity = cut;
}

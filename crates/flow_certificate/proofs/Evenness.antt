-- The nodes of a certificate by their numbers: as much flows into one as out of it where that is so by its name.
use Rattle.std.proofs.Common.{◌≡◌, ℕ, ◌+◌, ◌*◌, ◌<◌, ◌==◌, not, true, length, sym, ap, ◌∙◌, arith}
use Rattle.std.proofs.lemmas.Bool.{ltb-true}
use Rattle.flow_graph.specs.declared.graphs.Graph.{Graph}
use Rattle.max_flow.specs.declared.answers.Solved.{Solved}
use Rattle.max_flow.specs.Private.GraphNetworks.{network_of}
use Rattle.max_flow.proofs.NamedFlows.{AreFor, into_first, into_relay, into_second, out_first, out_relay, out_second}
use Rattle.flow_certificate.specs.declared.verdicts.Member.{Member}
use Rattle.flow_certificate.specs.declared.verdicts.Member.TheVariants.{In, Out, Relay}
use Rattle.flow_certificate.specs.Private.Sums.{is_uneven}
use Rattle.flow_certificate.specs.Verdicts.{HasNone, HasNoneUnbalanced, IsFirst, IsFirstUnbalanced, is_node_of}
use Rattle.flow_certificate.specs.Verdicts.{is_unbalanced, place_of}

differ_same : (a b c d : ℕ) → a ≡ c → b ≡ d → not (a == b) ≡ not (c == d)
differ_same a b c d first second = ap (λ (n : ℕ). not (n == b)) first ∙ ap (λ (n : ℕ). not (c == n)) second

abbrev pub AreCounted : Graph → Solved → Type 0
AreCounted graph solved = AreFor graph solved.flow.points solved.flow.links

pub uneven_same : (graph : Graph) (solved : Solved) → AreCounted graph solved → (node : Member) →
    is_node_of (length graph.points) node ≡ true →
    is_uneven graph solved (2 + place_of (length graph.points) node) ≡ is_unbalanced graph solved node
uneven_same graph solved counts (In point) known =
    let below : point < length graph.points = ltb-true point (length graph.points) known in
    differ_same _ _ _ _ (into_first graph solved.flow.points solved.flow.links point counts below)
    (out_first graph solved.flow.points solved.flow.links point counts below)
uneven_same graph solved counts (Out point) known =
    let below : point < length graph.points = ltb-true point (length graph.points) known in
    ap (is_uneven graph solved) (let e : 2 + (1 + 2 * point) ≡ 3 + 2 * point = omega arith in e)
    ∙ differ_same _ _ _ _ (into_second graph solved.flow.points solved.flow.links point counts below)
    (out_second graph solved.flow.points solved.flow.links point counts below)
uneven_same graph solved counts (Relay region) known =
    ap (is_uneven graph solved) (let e : 2 + (2 * length graph.points + region) ≡ 2 + 2 * length graph.points +
    region = omega arith in e)
    ∙ differ_same _ _ _ _ (into_relay graph solved.flow.points solved.flow.links region counts)
    (out_relay graph solved.flow.points solved.flow.links region counts)

place_inside : (graph : Graph) (node : Member) → is_node_of (length graph.points) node ≡ true →
    2 + place_of (length graph.points) node < (network_of graph).nodes
place_inside graph (In point) known =
    let below : point < length graph.points = ltb-true point (length graph.points) known in omega (arith, below)
place_inside graph (Out point) known =
    let below : point < length graph.points = ltb-true point (length graph.points) known in omega (arith, below)
place_inside graph (Relay region) known =
    let below : region < 65536 = ltb-true region 65536 known in omega (arith, below)

pub none_unbalanced : (graph : Graph) (solved : Solved) → AreCounted graph solved →
    HasNone (is_uneven graph solved) 2 ((network_of graph).nodes) → HasNoneUnbalanced graph solved
none_unbalanced graph solved counts none node known =
    sym (uneven_same graph solved counts node known)
    ∙ none (2 + place_of (length graph.points) node) (omega arith) (place_inside graph node known)

pub first_unbalanced : (graph : Graph) (solved : Solved) (number : ℕ) (node : Member) → AreCounted graph solved →
    IsFirst (is_uneven graph solved) 2 ((network_of graph).nodes) number →
    2 + place_of (length graph.points) node ≡ number → is_node_of (length graph.points) node ≡ true →
    IsFirstUnbalanced graph solved node
first_unbalanced graph solved number node counts first is known = record {
  known = known;
  unbalanced = sym (uneven_same graph solved counts node known) ∙ (ap (is_uneven graph solved) is ∙ first.passes);
  before = λ other stands earlier.
      sym (uneven_same graph solved counts other stands)
      ∙ first.before (2 + place_of (length graph.points) other) (omega arith) (omega (arith, earlier, is));
}

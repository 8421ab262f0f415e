use Rattle.std.proofs.Common.{ap, ◌∙◌}
use Rattle.flow_graph.specs.declared.graphs.Graph.{Graph}
use Rattle.max_flow.specs.declared.answers.Solved.{Solved}
use Rattle.flow_certificate.specs.Private.Drafts.{sketch_of}
use Rattle.flow_certificate.proofs.WholeDrafts.{parts_texts, same_picture}
use Rattle.flow_certificate.proofs.finishing.certificate_of.Goals as goal

pub whole_of-requires-clause-texts : goal.whole_of-requires-clause-texts
whole_of-requires-clause-texts c =
    parts_texts c.graph_of-graph.result _ (sketch_of c.args.draft).picture (record {
      value = c.in_ok-said.ensures.value;
      points = c.graph_of-graph.ensures.points ∙ c.in_ok-said.ensures.nodes;
      point_flows = c.in_ok-said.ensures.point_flows;
      halves = c.in_ok-said.ensures.halves;
      relays = c.graph_of-graph.ensures.relays ∙ c.requires.draft.same;
      answers = c.in_ok-said.ensures.answers;
      links = c.graph_of-graph.ensures.links ∙ c.in_ok-said.ensures.arcs;
      link_flows = c.in_ok-said.ensures.link_flows;
    }) c.requires.valid

pub returns : goal.returns
returns c =
    let graph = c.whole_of.ensures.graph in
    let solved = c.whole_of.ensures.solved in
    same_picture c.whole_of.result.graph c.whole_of.result.solved (sketch_of c.args.draft).picture (record {
      value = ap (λ (s : Solved). s.value) solved ∙ c.in_ok-said.ensures.value;
      points = ap (λ (g : Graph). g.points) graph ∙ (c.graph_of-graph.ensures.points ∙ c.in_ok-said.ensures.nodes);
      point_flows = ap (λ (s : Solved). s.flow.points) solved ∙ c.in_ok-said.ensures.point_flows;
      halves = ap (λ (s : Solved). s.side.points) solved ∙ c.in_ok-said.ensures.halves;
      relays = ap (λ (g : Graph). g.relays) graph ∙ (c.graph_of-graph.ensures.relays ∙ c.requires.draft.same);
      answers = ap (λ (s : Solved). s.side.relays) solved ∙ c.in_ok-said.ensures.answers;
      links = ap (λ (g : Graph). g.links) graph ∙ (c.graph_of-graph.ensures.links ∙ c.in_ok-said.ensures.arcs);
      link_flows = ap (λ (s : Solved). s.flow.links) solved ∙ c.in_ok-said.ensures.link_flows;
    })

use Rattle.std.proofs.Common.{refl}
use Rattle.cut_file.proofs.Following.{is_true}
use Rattle.measuring.proofs.RunCut.{cut_is}
use Rattle.measuring.proofs.CutNames.{cut_is_in}
use Rattle.measuring.proofs.GraphWithinLimits.{recorded_within, recorded_exceeds_none}
use Rattle.measuring.proofs.RunEvents.{few_bits, has_events, recorded_fit, slots_known}
use Rattle.measuring.proofs.weighing.weigh.Goals as goal

pub solve-requires : goal.solve-requires
solve-requires c = recorded_within c.args.exit.recording c.requires.within
    (has_events c.args.exit.recording c.requires.known) c.in_ok-graph.graph
    c.in_ok-graph.ensures

pub cut_of-requires-clause-bits : goal.cut_of-requires-clause-bits
cut_of-requires-clause-bits c =
    few_bits c.args.exit.recording c.in_ok-graph.graph _ _ _ c.requires.within c.requires.known c.in_ok-graph.ensures
    c.in_ok-value.ensures.side c.in_ok-value.ensures.capacity

pub cut_of-requires-clause-fits : goal.cut_of-requires-clause-fits
cut_of-requires-clause-fits c =
    recorded_fit c.args.exit.recording c.in_ok-graph.graph _ _ _ c.requires.within c.requires.known c.in_ok-graph.ensures
    c.in_ok-value.ensures.side c.in_ok-value.ensures.capacity

pub invariant_of-result : goal.invariant_of-result
invariant_of-result c =
    let within = recorded_within c.args.exit.recording c.requires.within
    (has_events c.args.exit.recording c.requires.known) c.in_ok-graph.graph
    c.in_ok-graph.ensures in
    record {
      few_points = within.points;
      few_links = within.links;
      small = within.capacities;
      slots = slots_known c.args.exit.recording c.in_ok-graph.graph _ _ _ c.requires.within c.requires.known
          c.in_ok-graph.ensures c.in_ok-value.ensures.side c.in_ok-value.ensures.capacity;
      known = is_true _ (cut_is_in _ c.in_ok-graph.graph.points _ c.in_ok-cut.cut.points c.in_ok-cut.ensures.points);
    }

pub returns : goal.returns
returns c = record {
  turns = refl;
  output = refl;
  measure = λ events records. record {
    graph = c.in_ok-graph.ensures events (records.graph c.requires.within);
    within = recorded_exceeds_none c.args.exit.recording c.requires.within events (records.graph c.requires.within);
    flow = c.in_ok-value.ensures.flow;
    value = c.in_ok-value.ensures.value;
    greatest = c.in_ok-value.ensures.greatest;
    points_most = c.in_ok-value.ensures.points;
    links_most = c.in_ok-value.ensures.links;
    side = c.in_ok-value.ensures.side;
    capacity = c.in_ok-value.ensures.capacity;
    cut = cut_is _ _ _ _ _ _ c.in_ok-cut.cut c.in_ok-cut.ensures events (records.visits c.requires.within)
        (c.in_ok-graph.ensures events (records.graph c.requires.within));
  };
}

use Rattle.std.proofs.Common.{arith}
use Rattle.cut_file.proofs.Following.{is_true}
use Rattle.measuring.specs.declared.recordings.Recording.{Recording}
use Rattle.measuring.specs.Recordings.{HasEvents}
use Rattle.measuring.proofs.RunCut.{cut_is}
use Rattle.measuring.proofs.CutNames.{cut_is_in}
use Rattle.measuring.proofs.FittingPoints.{nodes_known, points_fit}
use Rattle.measuring.proofs.GraphWithinLimits.{recorded_within, recorded_exceeds_none}
use Rattle.many_runs.specs.Private.WeighingAll.{HasFittingEvents}
use Rattle.many_runs.proofs.FewCutPoints.{points_are_few}
use Rattle.many_runs.proofs.weighing_all.weigh_all.Goals as goal

some_events : (union : Recording) → HasFittingEvents union → HasEvents union
some_events union known = record { events = known.events; records = known.records }

pub solve-requires : goal.solve-requires
solve-requires c = recorded_within c.args.union c.if-collapse.false (some_events c.args.union c.requires.known)
    c.in_ok-graph.graph c.in_ok-graph.ensures

pub cut_of-requires-clause-fits : goal.cut_of-requires-clause-fits
cut_of-requires-clause-fits c =
    points_fit c.args.union.visits c.in_ok-graph.graph _ _ c.requires.known.events c.requires.known.fit
    (c.requires.known.records.visits c.if-collapse.false)
    (c.in_ok-graph.ensures c.requires.known.events (c.requires.known.records.graph c.if-collapse.false))
    c.in_ok-value.ensures.side.side (omega (arith, c.in_ok-value.ensures.capacity))

pub returns-then-value-gt-MAX_BUDGET-clause-err : goal.returns-then-value-gt-MAX_BUDGET-clause-err
returns-then-value-gt-MAX_BUDGET-clause-err c = λ events records. record {
  within = recorded_exceeds_none c.args.union c.if-collapse.false events (records.graph c.if-collapse.false);
  maximum = record {
    graph = c.in_ok-graph.graph;
    graph_of = c.in_ok-graph.ensures events (records.graph c.if-collapse.false);
    points = _;
    links = _;
    flow = c.in_ok-value.ensures.flow;
    value_is = c.in_ok-value.ensures.value;
    greatest = c.in_ok-value.ensures.greatest;
  };
  over = omega arith;
}

pub invariant_of-result : goal.invariant_of-result
invariant_of-result c =
    let within = recorded_within c.args.union c.if-collapse.false (some_events c.args.union c.requires.known)
    c.in_ok-graph.graph c.in_ok-graph.ensures in
    record {
      few_points = within.points;
      few_links = within.links;
      small = within.capacities;
      slots = is_true _ (nodes_known c.requires.known.events c.in_ok-graph.graph c.requires.known.fit
          (c.in_ok-graph.ensures c.requires.known.events (c.requires.known.records.graph c.if-collapse.false)));
      few_cut_points = points_are_few c.in_ok-cut.cut.points _ _ _ c.in_ok-cut.ensures.points within.points;
      known = is_true _ (cut_is_in _ c.in_ok-graph.graph.points _ c.in_ok-cut.cut.points c.in_ok-cut.ensures.points);
    }

pub returns-clause-ok : goal.returns-clause-ok
returns-clause-ok c = λ events records. record {
  graph = c.in_ok-graph.ensures events (records.graph c.if-collapse.false);
  within = recorded_exceeds_none c.args.union c.if-collapse.false events (records.graph c.if-collapse.false);
  flow = c.in_ok-value.ensures.flow;
  value = c.in_ok-value.ensures.value;
  greatest = c.in_ok-value.ensures.greatest;
  points_most = c.in_ok-value.ensures.points;
  links_most = c.in_ok-value.ensures.links;
  side = c.in_ok-value.ensures.side;
  capacity = c.in_ok-value.ensures.capacity;
  cut = cut_is _ _ _ _ _ _ c.in_ok-cut.cut c.in_ok-cut.ensures events (records.visits c.if-collapse.false)
      (c.in_ok-graph.ensures events (records.graph c.if-collapse.false));
}

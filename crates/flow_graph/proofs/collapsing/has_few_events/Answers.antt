use Rattle.std.proofs.Common.{◌<◌, ◌^◌, length, ap, arith}
use Rattle.std.proofs.lemmas.Bool.{ltb-true}
use Rattle.flow_graph.proofs.FewPoints.{few_points}
use Rattle.flow_graph.proofs.collapsing.has_few_events.Goals as goal

pub returns-clause-few : goal.returns-clause-few
returns-clause-few c = λ few.
    let below : c.len.result < 2 ^ 32 = ltb-true c.len.result (2 ^ 32) few in
    few_points c.args.events.now (omega (arith, below, c.len.ensures, ap length c.events.ensures))

use Rattle.std.proofs.Common.{◌∙◌, arith}
use Rattle.max_flow.proofs.NamedFlows.{value_same}
use Rattle.flow_certificate.proofs.values.source_outflow.Goals as goal

pub returns : goal.returns
returns c =
    let t = c.args.certificate.now in
    c.sum_outflows.ensures.sums 0 (omega (arith, c.sum_outflows.ensures.count))
    ∙ value_same t.graph t.solved.flow.points t.solved.flow.links (record {
      points_count = t.point_flows;
      links_count = t.link_flows;
    })

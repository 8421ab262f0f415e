use Rattle.std.proofs.Common.{refl, arith}
use Rattle.max_flow.specs.Private.GraphNetworks.{network_of}
use Rattle.flow_certificate.specs.Private.Sums.{flows_of}
use Rattle.flow_certificate.proofs.Blocks.{first_differs, none_differs}
use Rattle.flow_certificate.proofs.balance.unbalanced_from.Goals as goal

pub returns-in-Some-clause-some : goal.returns-in-Some-clause-some
returns-in-Some-clause-some c =
    let t = c.args.certificate.now in
    first_differs (network_of t.graph).heads (network_of t.graph).tails (flows_of t.solved) c.sum_inflows.new.sums
    c.sum_outflows.new.sums c.args.base c.args.width c.in-Some.k c.sum_inflows.ensures.sums
    c.sum_outflows.ensures.sums (omega arith) (omega arith) c.in-Some.ensures.some

pub returns-in-None-clause-none : goal.returns-in-None-clause-none
returns-in-None-clause-none c none =
    let t = c.args.certificate.now in
    none_differs (network_of t.graph).heads (network_of t.graph).tails (flows_of t.solved) c.sum_inflows.new.sums
    c.sum_outflows.new.sums c.args.base c.args.width c.sum_inflows.ensures.sums
    c.sum_outflows.ensures.sums (omega arith) (omega arith) (c.in-None.ensures.none refl)

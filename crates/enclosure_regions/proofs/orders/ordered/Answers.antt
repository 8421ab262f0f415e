use Rattle.std.proofs.Common.{ap, ◌∙◌}
use Rattle.enclosure_regions.specs.Orders.{in_order}
use Rattle.enclosure_regions.proofs.Ordered.{ordered_rules}
use Rattle.enclosure_regions.proofs.orders.ordered.Goals as goal

pub returns-clause-rules : goal.returns-clause-rules
returns-clause-rules c =
    let region = c.args.region in
    let outs = c.in_ok-region.ensures ∙ ap in_order c.as_slice.ensures in
    let keep = c.in_ok-region-2.ensures ∙ ap in_order c.as_slice-2.ensures in
    rw (outs, keep) (ordered_rules region c.requires.written c.requires.addresses c.requires.registers)

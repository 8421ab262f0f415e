use Rattle.std.proofs.Common.{sym, ◌∙◌, arith}
use Rattle.max_flow.specs.Private.Solving.{net_of}
use Rattle.max_flow.proofs.WalksBack.{sum_fits}
use Rattle.max_flow.proofs.augmenting.push.Goals as goal

pub overflow_add-flows : goal.overflow_add-flows
overflow_add-flows c = let e = sum_fits (net_of c.args.network.now) c.args.flows.now c.args.at c.args.amount
    c.args.edge c.requires.network.fits c.requires.bounded c.requires.inside c.requires.room
    (sym c.head.ensures ∙ c.if-head-at.true) in omega (arith, e)

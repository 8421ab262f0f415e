use Rattle.std.proofs.Common.{sym, ◌∙◌, arith}
use Rattle.std.proofs.lemmas.Bool.{eqb-true}
use Rattle.max_flow.specs.Private.Solving.{net_of}
use Rattle.max_flow.proofs.IdleNodes.{alone_without_flow}
use Rattle.max_flow.proofs.scanning.is_idle.Goals as goal

pub returns : goal.returns
returns c = λ is.
    alone_without_flow (net_of c.args.network.now) c.args.flows.now c.args.network.now.leaving.first.items
    c.args.network.now.leaving.next.items c.args.at c.last_at-last.result c.requires.network.net c.requires.flow
    c.requires.network.leaving (omega arith) c.requires.inside c.last_at-last.ensures (omega arith) (omega arith)
    (sym c.before-earlier.ensures ∙ eqb-true c.before-earlier.result 0 is)

use Rattle.flow_graph.proofs.BuilderAfterEvent.{stands_pass, stands_link, stands_secret, stands_implicit, stands_out}
use Rattle.flow_graph.proofs.builders.Builder.add.Goals as goal

pub returns-in_ok-pass-in-Pass-clause-ok : goal.returns-in_ok-pass-in-Pass-clause-ok
returns-in_ok-pass-in-Pass-clause-ok c = λ events stands.
    rw c.in-Pass.is
    (stands_pass c.args.self.now c.pass.new.self c.in-Pass.point c.in-Pass.mask events stands
    c.in_ok-pass-in-Pass.ensures.positive c.in_ok-pass-in-Pass.ensures.counted
    c.in_ok-pass-in-Pass.ensures.grows c.pass.ensures.links)

pub returns-in_ok-link_if-in-Link-clause-ok : goal.returns-in_ok-link_if-in-Link-clause-ok
returns-in_ok-link_if-in-Link-clause-ok c = λ events stands.
    rw c.in-Link.is
    (stands_link c.args.self.now c.link_if.new.self c.in-Link.source c.in-Link.target c.has_both-holds.result events
    c.has_both-holds.ensures c.in_ok-link_if-in-Link.ensures.takes stands)

pub returns-in_ok-link_if-in-FromSecret-clause-ok : goal.returns-in_ok-link_if-in-FromSecret-clause-ok
returns-in_ok-link_if-in-FromSecret-clause-ok c = λ events stands.
    rw c.in-FromSecret.is
    (stands_secret c.args.self.now c.link_if-in-FromSecret.new.self c.in-FromSecret.point c.has-holds.result events
    c.has-holds.ensures c.in_ok-link_if-in-FromSecret.ensures.takes stands)

pub returns-in_ok-link_if-in-Implicit-clause-ok : goal.returns-in_ok-link_if-in-Implicit-clause-ok
returns-in_ok-link_if-in-Implicit-clause-ok c = λ events stands.
    rw c.in-Implicit.is
    (stands_implicit c.args.self.now c.link_if-in-Implicit.new.self c.in-Implicit.point c.in-Implicit.region
    c.has-holds-in-Implicit.result c.outlet.result events
    c.has-holds-in-Implicit.ensures c.outlet.ensures c.in_ok-link_if-in-Implicit.ensures.takes stands)

pub returns-in_ok-link_if-in-Out-clause-ok : goal.returns-in_ok-link_if-in-Out-clause-ok
returns-in_ok-link_if-in-Out-clause-ok c = λ events stands.
    rw c.in-Out.is
    (stands_out c.args.self.now c.link_if-in-Out.new.self c.in-Out.point c.in-Out.region c.has_output-holds.result
    events c.has_output-holds.ensures c.in_ok-link_if-in-Out.ensures.takes stands)

use Rattle.std.proofs.Common.{◌≡◌, false, sym, subst}
use Rattle.std.proofs.lemmas.Result.{on_ok_weaker}
use Rattle.std.proofs.lemmas.Bool.{ne_eqb, OnTrue_at}
use Rattle.std.specs.Map.{keys_of}
use Rattle.flow_graph.specs.EventGraphs.{is_among}
use Rattle.flow_graph.specs.Keeping.{Keeps}
use Rattle.flow_graph.specs.declared.named_links.NamedEnd.TheVariants.{At}
use Rattle.location_collapse.specs.Collapses.{knows}
use Rattle.location_collapse.specs.Adding.{WantsLink}
use Rattle.location_collapse.proofs.EventSteps.{makes_link, makes_secret, makes_implicit, makes_output, no_output}
use Rattle.location_collapse.proofs.EventSteps.{known_link}
use Rattle.location_collapse.proofs.collapses.Collapse.take.Goals as goal

pub returns-then-region-eq0-clause-ok : goal.returns-then-region-eq0-clause-ok
returns-then-region-eq0-clause-ok c = λ events stands.
    rw c.in-Out.is (no_output c.args.self.now.points.capacities.map.entries (keys_of c.args.self.now.links.named.map.entries) c.in-Out.region
    c.in-Out.point events c.if-region-eq0.true stands)

pub returns-then-is_flow_again-clause-ok : goal.returns-then-is_flow_again-clause-ok
returns-then-is_flow_again-clause-ok c = λ events stands.
    rw (c.in-Link.is, c.is_flow_again.ensures.map) (known_link c.args.self.now.points.capacities.map.entries (keys_of c.args.self.now.links.named.map.entries) _ _ events
    (makes_link (knows c.args.self.now) c.in-Link.source c.in-Link.target)
    (OnTrue_at c.if-is_flow_again.true c.is_flow_again.ensures.known) stands)

pub returns-then-is_latest_output-clause-ok : goal.returns-then-is_latest_output-clause-ok
returns-then-is_latest_output-clause-ok c = λ events stands.
    rw c.in-Out.is (known_link c.args.self.now.points.capacities.map.entries (keys_of c.args.self.now.links.named.map.entries) _ _ events
    (makes_output (knows c.args.self.now) c.in-Out.region c.in-Out.point (ne_eqb c.in-Out.region 0 c.if-region-eq0.false))
    (OnTrue_at c.if-is_latest_output.true c.is_latest_output.ensures.known) stands)

pub returns-in-Pass-clause-ok : goal.returns-in-Pass-clause-ok
returns-in-Pass-clause-ok c = rw c.in-Pass.is c.pass.ensures.ok

pub returns-else-is_flow_again-clause-ok : goal.returns-else-is_flow_again-clause-ok
returns-else-is_flow_again-clause-ok c =
    rw c.in-Link.is
    (on_ok_weaker c.put.result (λ ok events stands. ok _ events (makes_link (knows c.args.self.now) c.in-Link.source
    c.in-Link.target) (subst (λ map. Keeps c.args.self.now.points.capacities.map.entries (keys_of map.entries) events)
    (sym c.is_flow_again.ensures.map) stands)) c.put.ensures.ok)

pub returns-in-FromSecret-clause-ok : goal.returns-in-FromSecret-clause-ok
returns-in-FromSecret-clause-ok c =
    rw c.in-FromSecret.is
    (on_ok_weaker c.put-in-FromSecret.result (λ ok events. ok _ events (makes_secret (knows c.args.self.now)
    c.in-FromSecret.point)) c.put-in-FromSecret.ensures.ok)

pub returns-in-Implicit-clause-ok : goal.returns-in-Implicit-clause-ok
returns-in-Implicit-clause-ok c =
    rw c.in-Implicit.is
    (on_ok_weaker c.put-in-Implicit.result (λ ok events. ok _ events (makes_implicit (knows c.args.self.now)
    c.in-Implicit.point c.in-Implicit.region c.outlet.result c.outlet.ensures)) c.put-in-Implicit.ensures.ok)

pub returns-else-is_latest_output-clause-ok : goal.returns-else-is_latest_output-clause-ok
returns-else-is_latest_output-clause-ok c =
    rw c.in-Out.is
    (on_ok_weaker c.put-in-Out.result (λ ok events. ok _ events (makes_output (knows c.args.self.now) c.in-Out.region
    c.in-Out.point (ne_eqb c.in-Out.region 0 c.if-region-eq0.false))) c.put-in-Out.ensures.ok)

pub returns-in-Pass-clause-limit : goal.returns-in-Pass-clause-limit
returns-in-Pass-clause-limit c = rw c.in-Pass.is c.pass.ensures.limit

pub returns-else-is_flow_again-clause-limit : goal.returns-else-is_flow_again-clause-limit
returns-else-is_flow_again-clause-limit c =
    rw c.in-Link.is
    (λ full events stands. c.put.ensures.limit full _ events (makes_link (knows c.args.self.now) c.in-Link.source
    c.in-Link.target) (subst (λ map. Keeps c.args.self.now.points.capacities.map.entries (keys_of map.entries) events)
    (sym c.is_flow_again.ensures.map) stands))

pub returns-in-FromSecret-clause-limit : goal.returns-in-FromSecret-clause-limit
returns-in-FromSecret-clause-limit c =
    rw c.in-FromSecret.is
    (λ full events. c.put-in-FromSecret.ensures.limit full _ events (makes_secret (knows c.args.self.now)
    c.in-FromSecret.point))

pub returns-in-Implicit-clause-limit : goal.returns-in-Implicit-clause-limit
returns-in-Implicit-clause-limit c =
    rw c.in-Implicit.is
    (λ full events. c.put-in-Implicit.ensures.limit full _ events (makes_implicit (knows c.args.self.now)
    c.in-Implicit.point c.in-Implicit.region c.outlet.result c.outlet.ensures))

pub returns-else-is_latest_output-clause-limit : goal.returns-else-is_latest_output-clause-limit
returns-else-is_latest_output-clause-limit c =
    rw c.in-Out.is
    (λ full events. c.put-in-Out.ensures.limit full _ events (makes_output (knows c.args.self.now) c.in-Out.region
    c.in-Out.point (ne_eqb c.in-Out.region 0 c.if-region-eq0.false)))

pub returns-in-Pass-clause-memory : goal.returns-in-Pass-clause-memory
returns-in-Pass-clause-memory c = rw c.in-Pass.is c.pass.ensures.memory

pub returns-else-is_flow_again-clause-memory : goal.returns-else-is_flow_again-clause-memory
returns-else-is_flow_again-clause-memory c =
    rw c.in-Link.is
    (λ e. record {
      new = subst (λ map. is_among (keys_of map.entries) (record {
        source = At c.in-Link.source;
        target = At
            c.in-Link.target;
      }) ≡ false) c.is_flow_again.ensures.map (c.put.ensures.memory e).new;
      ends = (c.put.ensures.memory e).ends;
    })

pub returns-in-FromSecret-clause-memory : goal.returns-in-FromSecret-clause-memory
returns-in-FromSecret-clause-memory c = rw c.in-FromSecret.is c.put-in-FromSecret.ensures.memory

pub returns-in-Implicit-clause-memory : goal.returns-in-Implicit-clause-memory
returns-in-Implicit-clause-memory c =
    rw c.in-Implicit.is
    (λ e. subst (λ out. WantsLink c.args.self.now (record { source = At c.in-Implicit.point; target = out }))
    c.outlet.ensures (c.put-in-Implicit.ensures.memory e))

pub returns-else-is_latest_output-clause-memory : goal.returns-else-is_latest_output-clause-memory
returns-else-is_latest_output-clause-memory c = rw c.in-Out.is c.put-in-Out.ensures.memory

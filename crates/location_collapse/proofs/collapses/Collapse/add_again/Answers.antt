use Rattle.std.proofs.Common.{◌≡◌, ◌∷◌, [], true, sym, ap, ◌∙◌, subst, inr, Err}
use Rattle.std.proofs.lemmas.Bool.{OnTrue_at}
use Rattle.std.specs.Map.{keys_of}
use Rattle.flow_graph.specs.Events.{again_events}
use Rattle.flow_graph.specs.declared.events.Event.TheVariants.{Pass, Link, Out}
use Rattle.location_collapse.specs.Collapses.{HasAgainLinks}
use Rattle.location_collapse.specs.KeptLinks.{has_flow, has_output}
use Rattle.location_collapse.proofs.EventSteps.{taken_again}
use Rattle.location_collapse.proofs.EventsInTurn.{allows_of, refuses_rest}
use Rattle.location_collapse.proofs.collapses.Collapse.add_again.Goals as goal

pub returns-in-Ok-clause-ok : goal.returns-in-Ok-clause-ok
returns-in-Ok-clause-ok c = λ events stands.
    let p = c.args.point.now in
    let has : HasAgainLinks c.args.self.now p =
    OnTrue_at c.if-not-has_latest_links.false c.has_latest_links.ensures in
    taken_again c.pass.new.self.points.capacities.map.entries (keys_of c.pass.new.self.links.named.map.entries) p c.args.mask events
    has.in_region
    (subst (λ kept. has_flow (keys_of kept.named.map.entries) p p ≡ true) (sym c.pass.ensures.links) has.flow)
    (subst (λ kept. has_output (keys_of kept.named.map.entries) p.region p ≡ true) (sym c.pass.ensures.links) has.output)
    (c.in-Ok.ensures.ok events stands)

pub returns-in-Ok-clause-within : goal.returns-in-Ok-clause-within
returns-in-Ok-clause-within c =
    allows_of c.args.self.now c.pass.new.self (again_events c.args.point.now c.args.mask) (returns-in-Ok-clause-ok c)

pub returns-in-Err-Limit-clause-limit : goal.returns-in-Err-Limit-clause-limit
returns-in-Err-Limit-clause-limit c = λ e.
    let p = c.args.point.now in
    refuses_rest c.args.self.now (Pass p c.args.mask ∷ []) (Link p p ∷ Out p.region p ∷ [])
    (inr (c.pass.ensures.limit (c.in-Err-Limit.is ∙ ap Err c.in-Err-Limit.field-0-is)))

use Rattle.std.proofs.Common.{sym, ap, subst, ◌∙◌, ◌++◌, ◌∷◌, []}
use Rattle.std.specs.Option.{is_some}
use Rattle.std.specs.Map.{keys_of}
use Rattle.flow_graph.specs.Keeping.{Keeps}
use Rattle.std.proofs.lemmas.Result.{on_ok_weaker}
use Rattle.std.proofs.Common.{inr, inl}
use Rattle.location_collapse.proofs.EventSteps.{known_link, missing_end, new_link, made_alone}
use Rattle.location_collapse.proofs.CollapseLimits.{exceeds_links}
use Rattle.location_collapse.proofs.collapses.Collapse.put.Goals as goal

pub returns-in-Some-clause-ok : goal.returns-in-Some-clause-ok
returns-in-Some-clause-ok c = λ event events makes stands.
    subst (λ keys. Keeps c.args.self.now.points.capacities.map.entries keys (events ++ event ∷ [])) (sym c.note.ensures.keys)
    (known_link c.args.self.now.points.capacities.map.entries (keys_of c.args.self.now.links.named.map.entries) event c.args.link events makes
    (sym c.find.ensures.some ∙ ap is_some c.in-Some.is) stands)

pub returns-then-not-has_ends-clause-ok : goal.returns-then-not-has_ends-clause-ok
returns-then-not-has_ends-clause-ok c = λ event events makes stands.
    missing_end c.args.self.now.points.capacities.map.entries (keys_of c.args.self.now.links.named.map.entries) event c.args.link events makes
    (sym c.has_ends.ensures ∙ c.if-not-has_ends.true) stands

pub returns-clause-ok : goal.returns-clause-ok
returns-clause-ok c =
    on_ok_weaker c.put.result
    (λ takes event events makes stands.
    new_link c.args.self.now.points.capacities.map.entries (keys_of c.args.self.now.links.named.map.entries) (keys_of c.put.new.self.named.map.entries) event
    c.args.link events makes (sym c.has_ends.ensures ∙ c.if-not-has_ends.false) takes stands)
    c.put.ensures.ok

pub returns-clause-limit : goal.returns-clause-limit
returns-clause-limit c = λ e event events makes stands.
    inr (inl (exceeds_links c.args.self.now.points.capacities.map.entries (keys_of c.args.self.now.links.named.map.entries) events event
    c.args.link stands (made_alone _ event c.args.link makes (sym c.has_ends.ensures ∙ c.if-not-has_ends.false))
    (sym c.find.ensures.some ∙ ap is_some c.in_default.is) (c.put.ensures.full e)))

pub returns-clause-memory : goal.returns-clause-memory
returns-clause-memory c = λ e. record {
  new = sym c.find.ensures.some ∙ ap is_some c.in_default.is;
  ends = sym c.has_ends.ensures ∙ c.if-not-has_ends.false;
}

use Rattle.std.proofs.Common.{refl, sym, ◌∙◌}
use Rattle.std.specs.Map.{keys_of}
use Rattle.std.proofs.lemmas.Bool.{OnTrue_from}
use Rattle.location_collapse.proofs.LatestLinks.{flow_apart, flow_known, flow_told}
use Rattle.location_collapse.proofs.kept_links.KeptLinks.is_latest_flow.Goals as goal

pub returns-then-eq-clause-known : goal.returns-then-eq-clause-known
returns-then-eq-clause-known c =
    OnTrue_from c.eq-then-eq.result _
    (λ e. flow_known (keys_of c.args.self.now.named.map.entries) c.args.self.now.flow c.args.source.now c.args.target.now c.in-Some.from
    c.in-Some.to c.args.self.now.has_latest_flow c.in-Some.is (sym c.eq.ensures ∙ c.if-eq.true)
    (sym c.eq-then-eq.ensures ∙ e))

pub returns-then-eq-clause-latest : goal.returns-then-eq-clause-latest
returns-then-eq-clause-latest c =
    flow_told c.args.self.now.flow c.args.source.now c.args.target.now c.in-Some.from c.in-Some.to c.eq-then-eq.result
    c.in-Some.is (sym c.eq.ensures ∙ c.if-eq.true) c.eq-then-eq.ensures

pub returns-else-eq-clause-latest : goal.returns-else-eq-clause-latest
returns-else-eq-clause-latest c =
    c.if-eq.false ∙ flow_apart c.args.self.now.flow c.args.source.now c.args.target.now c.in-Some.from c.in-Some.to
    c.in-Some.is (sym c.eq.ensures ∙ c.if-eq.false)

pub returns-in-None-clause-latest : goal.returns-in-None-clause-latest
returns-in-None-clause-latest c = rw c.in-None.is refl

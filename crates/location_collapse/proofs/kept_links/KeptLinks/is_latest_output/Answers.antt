use Rattle.std.proofs.Common.{refl, sym, ◌∙◌}
use Rattle.std.specs.Map.{keys_of}
use Rattle.std.proofs.lemmas.Bool.{OnTrue_from, ne_eqb}
use Rattle.location_collapse.proofs.LatestLinks.{output_apart, output_known, output_told}
use Rattle.location_collapse.proofs.kept_links.KeptLinks.is_latest_output.Goals as goal

pub returns-then-from-region-clause-known : goal.returns-then-from-region-clause-known
returns-then-from-region-clause-known c =
    OnTrue_from c.eq.result _
    (λ e. output_known (keys_of c.args.self.now.named.map.entries) c.args.self.now.output c.args.region c.args.point.now c.in-Some.from
    c.in-Some.to c.args.self.now.has_latest_output c.in-Some.is c.if-from-region.true (sym c.eq.ensures ∙ e))

pub returns-then-from-region-clause-latest : goal.returns-then-from-region-clause-latest
returns-then-from-region-clause-latest c =
    output_told c.args.self.now.output c.args.region c.args.point.now c.in-Some.from c.in-Some.to c.eq.result c.in-Some.is
    c.if-from-region.true c.eq.ensures

pub returns-else-from-region-clause-latest : goal.returns-else-from-region-clause-latest
returns-else-from-region-clause-latest c =
    ne_eqb c.in-Some.from c.args.region c.if-from-region.false
    ∙ output_apart c.args.self.now.output c.args.region c.args.point.now c.in-Some.from c.in-Some.to c.in-Some.is
    c.if-from-region.false

pub returns-in-None-clause-latest : goal.returns-in-None-clause-latest
returns-in-None-clause-latest c = rw c.in-None.is refl

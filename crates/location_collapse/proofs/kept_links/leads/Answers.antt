use Rattle.std.proofs.lemmas.Bool.{OnTrue_from}
use Rattle.std.proofs.Common.{sym, ◌∙◌}
use Rattle.location_collapse.proofs.LatestLinks.{led}
use Rattle.location_collapse.proofs.kept_links.leads.Goals as goal

pub returns-then-eq : goal.returns-then-eq
returns-then-eq c =
    OnTrue_from c.eq-then-eq.result _
    (λ e. led c.args.link.now c.in-At.from c.in-At-target.to c.args.source.now c.args.target.now c.in-At.is c.in-At-target.is
    (sym c.eq.ensures ∙ c.if-eq.true) (sym c.eq-then-eq.ensures ∙ e))

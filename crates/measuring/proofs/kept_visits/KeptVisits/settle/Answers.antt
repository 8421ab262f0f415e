use Rattle.std.proofs.Common.{sym, subst, ◌∙◌, refl}
use Rattle.std.proofs.lemmas.Result.{on_ok_weaker}
use Rattle.measuring.specs.Counts.{Clears}
use Rattle.measuring.proofs.AddedVisits.{adds_none, settled}
use Rattle.measuring.proofs.kept_visits.KeptVisits.settle.Goals as goal

pub returns-then-count-eq0 : goal.returns-then-count-eq0
returns-then-count-eq0 c =
    settled c.args.self.now (record {
      counts = c.clear.new.self;
      points = c.args.self.now.points;
      alloc = c.args.self.now.alloc;
    }) c.args.point (record { count = 0; mask = 0 }) (sym c.if-count-eq0.true
    ∙ c.in_ok-count.ensures.counted) refl (adds_none c.args.self.now.points.map.entries c.args.point)
    c.in_ok-count.ensures.cleared

pub returns : goal.returns
returns c =
    on_ok_weaker c.put.result
    (λ adds. settled c.args.self.now c.put.new.self c.args.point (record { count = c.from.result; mask = 0 })
    (c.from.ensures ∙ c.in_ok-count.ensures.counted) refl adds
    (subst (λ counts. Clears c.args.self.now.counts counts c.args.point) (sym c.put.ensures.counts)
    c.in_ok-count.ensures.cleared))
    c.put.ensures.ok

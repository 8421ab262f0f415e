use Rattle.std.proofs.Common.{sym, ap, ◌∙◌, ◌++◌, replicate}
use Rattle.measuring.specs.KeptVisits.{masks_if_any}
use Rattle.measuring.proofs.AddedVisits.{adds}
use Rattle.measuring.proofs.kept_visits.KeptVisits.start.Goals as goal

pub returns-clause-ok : goal.returns-clause-ok
returns-clause-ok c =
    adds c.args.self.now.points.map.entries c.add.new.self.map.entries c.args.point c.first-visits.result c.args.run
    c.in_ok-add.ensures.puts
    (c.first-visits.ensures ∙ ap (λ o. masks_if_any o ++ replicate c.args.run.count c.args.run.mask)
    (sym c.requires.unknown))

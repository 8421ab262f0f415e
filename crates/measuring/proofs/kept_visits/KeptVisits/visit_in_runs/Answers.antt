use Rattle.std.proofs.lemmas.Result.{on_ok_weaker}
use Rattle.measuring.proofs.AddedVisits.{visited}
use Rattle.measuring.proofs.kept_visits.KeptVisits.visit_in_runs.Goals as goal

pub returns : goal.returns
returns c =
    on_ok_weaker c.put.result
    (λ adds. visited c.args.self.now c.settle.new.self c.put.new.self c.args.point c.args.mask c.in_ok-settle.ensures
    adds c.put.ensures.counts)
    c.put.ensures.ok

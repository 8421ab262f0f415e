use Rattle.many_runs.proofs.FedEvents.{reach_end, reach_start, reach_step, runs_end, runs_open}
use Rattle.many_runs.proofs.uniting.add_runs.Goals as goal

pub loop-rest-init : goal.loop-rest-init
loop-rest-init c = λ events records. reach_start _ events _ records

pub loop-rest-preserved : goal.loop-rest-preserved
loop-rest-preserved c =
    λ events records. reach_step _ _ _ _ _ _
    (runs_open c.args.point c.loop-rest.rest.now _ c.in-len1-up.len_at_least) (c.loop-rest.invariant events records)
    c.in_ok-add_visits.ensures

pub returns : goal.returns
returns c =
    λ events records. reach_end _ _ _ (runs_end c.args.point c.loop-rest.rest.now c.in_default.len_below)
    (c.loop-rest.invariant events records)

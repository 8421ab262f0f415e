use Rattle.many_runs.proofs.FedEvents.{reach_end, reach_start, reach_step, recordings_end, recordings_open}
use Rattle.many_runs.proofs.uniting.add_all_links.Goals as goal

pub loop-rest-init : goal.loop-rest-init
loop-rest-init c = λ events records. reach_start _ events _ records

pub loop-rest-preserved : goal.loop-rest-preserved
loop-rest-preserved c =
    λ events records. reach_step _ _ _ _ _ _
    (recordings_open c.loop-rest.rest.now c.recording-item.result c.in-len1-up.len_at_least c.recording-item.is)
    (c.loop-rest.invariant events records) c.in_ok-add_links.ensures

pub returns : goal.returns
returns c =
    λ events records. reach_end _ _ _ (recordings_end c.loop-rest.rest.now c.in_default.len_below)
    (c.loop-rest.invariant events records)

use Rattle.many_runs.proofs.PutPoints.{recorded_end, recorded_more}
use Rattle.many_runs.proofs.points.put_recordings.Goals as goal

pub loop-rest-preserved : goal.loop-rest-preserved
loop-rest-preserved c =
    λ q lacks none. c.loop-rest.invariant q (c.in_ok-put_visits.ensures.stay q lacks)
    (recorded_more c.loop-rest.rest.now c.recording-item.result q c.in-len1-up.len_at_least c.recording-item.is
    (c.in_ok-put_visits.ensures.visited q lacks) none)

pub returns : goal.returns
returns c =
    λ q lacks. c.loop-rest.invariant q lacks (recorded_end c.loop-rest.rest.now q c.in_default.len_below)

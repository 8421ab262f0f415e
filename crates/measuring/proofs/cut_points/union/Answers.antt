use Rattle.measuring.proofs.CutRuns.{united_step, united_end}
use Rattle.measuring.proofs.cut_points.union.Goals as goal

pub loop-rest-preserved : goal.loop-rest-preserved
loop-rest-preserved c = united_step c.loop-rest.mask _ c.loop-rest.rest.now _ c.in-len1-up.len_at_least
    c.loop-rest.invariant

pub returns : goal.returns
returns c = united_end c.loop-rest.mask _ c.loop-rest.rest.now c.in_default.len_below c.loop-rest.invariant

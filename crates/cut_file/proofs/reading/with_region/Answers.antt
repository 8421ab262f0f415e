use Rattle.cut_file.proofs.Following.{regions_push}
use Rattle.cut_file.proofs.reading.with_region.Goals as goal

pub invariant_of-result-clause-skips : goal.invariant_of-result-clause-skips
invariant_of-result-clause-skips c =
    rw c.in_ok-push_region.ensures.put (regions_push c.args.cut.skip c.args.region c.args.cut.skips c.requires
    c.in_ok-push_region.ensures.ok)

use Rattle.std.proofs.Common.{◌++◌, replicate}
use Rattle.many_runs.specs.Private.Joining.{passes}
use Rattle.many_runs.proofs.FedEvents.{visit_again, visits_start}
use Rattle.many_runs.proofs.uniting.add_visits.Goals as goal

pub loop-visit-init : goal.loop-visit-init
loop-visit-init c = λ events records. visits_start c.args.union.now events c.args.point records

pub loop-visit-preserved : goal.loop-visit-preserved
loop-visit-preserved c =
    λ events records. visit_again _ events c.args.point c.args.run.mask c.loop-visit._visit
    (c.in_ok-add.ensures (events ++ passes c.args.point (replicate c.loop-visit._visit c.args.run.mask))
    (c.loop-visit.invariant events records))

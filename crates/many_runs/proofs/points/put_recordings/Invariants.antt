use Rattle.std.proofs.Common.{◌≡◌, [], false, length}
use Rattle.std.specs.BTreeSet as sorted
use Rattle.flow_base.specs.declared.points.Point.{Point}
use Rattle.flow_base.specs.PointOrders.{point_cmp}
use Rattle.many_runs.specs.Private.Joining.{recorded_masks}
use Rattle.many_runs.proofs.points.put_recordings.Given as goal

abbrev pub invariant-loop-rest : goal.invariant-loop-rest
invariant-loop-rest l =
    (q : Point) → sorted.contains point_cmp l.points q ≡ false → recorded_masks q l.rest ≡ [] →
    recorded_masks q l.recordings ≡ []

abbrev pub decreases-loop-rest : goal.decreases-loop-rest
decreases-loop-rest l = length l.rest

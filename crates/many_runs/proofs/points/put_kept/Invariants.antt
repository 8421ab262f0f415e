use Rattle.std.proofs.Common.{◌≡◌, ◌≤◌, false, drop, length}
use Rattle.std.specs.BTreeSet as sorted
use Rattle.std.specs.Map.{lookup}
use Rattle.std.specs.Option.{is_some}
use Rattle.flow_base.specs.declared.points.Point.{Point}
use Rattle.flow_base.specs.PointOrders.{is_same, point_cmp}
use Rattle.many_runs.proofs.points.put_kept.Given as goal

abbrev pub invariant-loop-left : goal.invariant-loop-left
invariant-loop-left l = record {
  within : l.left ≤ length l.kept.entries;
  stay : (q : Point) → sorted.contains point_cmp l.points q ≡ false → sorted.contains point_cmp l.initial.points q ≡ false;
  kept : (q : Point) → sorted.contains point_cmp l.points q ≡ false →
      is_some (lookup (is_same q) (drop l.left l.kept.entries)) ≡ false;
}

abbrev pub decreases-loop-left : goal.decreases-loop-left
decreases-loop-left l = l.left

use Rattle.std.proofs.Common.{◌≡◌, ℕ, ◌%◌, ◌<◌, ◌≤◌, true, false, drop, length}
use Rattle.std.specs.BTreeSet as sorted
use Rattle.flow_base.specs.declared.points.Point.{Point}
use Rattle.flow_base.specs.PointOrders.{point_cmp}
use Rattle.measuring.specs.Counts.{count_at}
use Rattle.many_runs.specs.Private.Points.{point_at}
use Rattle.many_runs.proofs.points.put_rows.Given as goal

abbrev pub invariant-loop-left : goal.invariant-loop-left
invariant-loop-left l = record {
  within : l.left ≤ length l.rows.entries;
  stay : (q : Point) → sorted.contains point_cmp l.points q ≡ false → sorted.contains point_cmp l.initial.points q ≡ false;
  counted : (page : Point) (column : ℕ) → page.address % 4096 ≡ 0 → 0 < count_at (drop l.left l.rows.entries) page column →
      sorted.contains point_cmp l.points (point_at page column) ≡ true;
}

abbrev pub decreases-loop-left : goal.decreases-loop-left
decreases-loop-left l = l.left

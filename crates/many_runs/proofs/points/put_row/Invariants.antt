use Rattle.std.proofs.Common.{◌≡◌, ℕ, ◌%◌, ◌<◌, true, false, get_or}
use Rattle.std.specs.BTreeSet as sorted
use Rattle.flow_base.specs.declared.points.Point.{Point}
use Rattle.flow_base.specs.PointOrders.{point_cmp}
use Rattle.many_runs.specs.Private.Points.{point_at}
use Rattle.many_runs.proofs.points.put_row.Given as goal

abbrev pub invariant-loop-column : goal.invariant-loop-column
invariant-loop-column l = record {
  stay : (q : Point) → sorted.contains point_cmp l.points q ≡ false → sorted.contains point_cmp l.initial.points q ≡ false;
  counted : l.page.address % 4096 ≡ 0 → (k : ℕ) → k < l.column → 0 < get_or l.counts k 0 →
      sorted.contains point_cmp l.points (point_at l.page k) ≡ true;
}

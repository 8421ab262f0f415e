use Rattle.std.proofs.Common.{◌≡◌, ℕ, ◌<◌, true, get_or, length, subst, sym, arith, List}
use Rattle.std.specs.BTreeSet as sorted
use Rattle.flow_base.specs.declared.points.Point.{Point}
use Rattle.flow_base.specs.PointOrders.{point_cmp}
use Rattle.many_runs.specs.Private.Points.{point_at}
use Rattle.many_runs.proofs.PutPoints.{counts_more, keeps}
use Rattle.many_runs.proofs.points.put_rows.Goals as goal

pub loop-left-preserved-in-Continue-1 : goal.loop-left-preserved-in-Continue-1
loop-left-preserved-in-Continue-1 c = record {
  within = omega (arith, c.loop-left.invariant.within);
  stay = λ q lacks. c.loop-left.invariant.stay q (c.in_ok-put_row.ensures.stay q lacks);
  counted = λ page column whole count. counts_more c.args.rows.now.entries c.loop-left.left c.in-Some.page.now
      c.in-Some.row.now page column (λ (p : Point). sorted.contains point_cmp c.put_row.new.points p ≡ true)
      (omega (arith, c.loop-left-test.true)) (sym c.in-Some.ensures.entry)
      (λ before. keeps _ _ (c.in_ok-put_row.ensures.stay (point_at page column))
      (c.loop-left.invariant.counted page column whole before)) whole
      (λ own within more. subst (λ (counts : List ℕ). column < length counts → 0 < get_or counts column 0 →
      sorted.contains point_cmp c.put_row.new.points (point_at c.in-Some.page.now column) ≡ true) c.as_slice.ensures.value
      (c.in_ok-put_row.ensures.counted own column) within more) count;
}

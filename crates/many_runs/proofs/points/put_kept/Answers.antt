use Rattle.std.proofs.Common.{sym, arith}
use Rattle.many_runs.proofs.PutPoints.{earlier_lacks, kept_more}
use Rattle.many_runs.proofs.points.put_kept.Goals as goal

pub loop-left-preserved-in-Continue-1 : goal.loop-left-preserved-in-Continue-1
loop-left-preserved-in-Continue-1 c = record {
  within = omega (arith, c.loop-left.invariant.within);
  stay = λ q lacks. c.loop-left.invariant.stay q (earlier_lacks _ _ _ (c.in_ok-put_point.ensures q) lacks);
  kept = λ q lacks. kept_more c.args.kept.now.entries c.loop-left.left c.in-Some.point.now _ q _ _
      (omega (arith, c.loop-left-test.true)) (sym c.in-Some.ensures.entry) (c.in_ok-put_point.ensures q) lacks
      (λ old. c.loop-left.invariant.kept q old);
}

use Rattle.std.proofs.Common.{◌≡◌, ◌+◌, ◌≤◌, length}
use Rattle.std.specs.Prelude.{sum_by}
use Rattle.region_learn.specs.LearnAnswers.{counted}
use Rattle.region_learn.proofs.checks.byte_count.Given as goal

abbrev pub invariant-loop-rest : goal.invariant-loop-rest
invariant-loop-rest l = record {
  fits : l.bytes ≤ 4294967295;
  same : counted (l.bytes + sum_by (λ range. range.length) l.rest) ≡ counted (sum_by (λ range. range.length) l.ranges);
}

abbrev pub decreases-loop-rest : goal.decreases-loop-rest
decreases-loop-rest l = length l.rest

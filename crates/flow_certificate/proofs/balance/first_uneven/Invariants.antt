use Rattle.std.proofs.Common.{◌+◌, ◌*◌, ◌-◌, ◌≤◌, length}
use Rattle.flow_certificate.specs.Private.Sums.{is_uneven}
use Rattle.flow_certificate.specs.Verdicts.{HasNone}
use Rattle.flow_certificate.proofs.balance.first_uneven.Given as goal

abbrev pub invariant-loop-base : goal.invariant-loop-base
invariant-loop-base l = record {
  from_on : 2 ≤ l.base;
  within : l.base ≤ 2 + 2 * length l.certificate.graph.points + 65536;
  none : HasNone (is_uneven l.certificate.graph l.certificate.solved) 2 l.base;
}

abbrev pub decreases-loop-base : goal.decreases-loop-base
decreases-loop-base l = 2 + 2 * length l.certificate.graph.points + 65536 - l.base

use Rattle.std.proofs.Common.{◌≡◌, ◌*◌, ◌^◌, ◌≤◌}
use Rattle.flow_certificate.specs.Private.Sides.{cut_below}
use Rattle.flow_certificate.proofs.values.side_capacity.Given as goal

abbrev pub invariant-loop-i : goal.invariant-loop-i
invariant-loop-i l = record {
  sum : l.total ≡ cut_below l.certificate.graph l.certificate.solved l.i;
  small : l.total ≤ l.i * 2 ^ 48;
}

use Rattle.std.proofs.Common.{◌≡◌, map, take}
use Rattle.flow_certificate.specs.Certificates.{node_of}
use Rattle.flow_certificate.specs.Pictures.{flow_at_point, half_at}
use Rattle.flow_certificate.proofs.finishing.points_of.Given as goal

abbrev pub invariant-loop-line : goal.invariant-loop-line
invariant-loop-line l = record {
  nodes : l.lists.nodes ≡ map node_of (take l.line-index l.lines);
  flows : l.lists.flows ≡ map flow_at_point (take l.line-index l.lines);
  halves : l.lists.halves ≡ map half_at (take l.line-index l.lines);
}

use Rattle.std.proofs.Common.{◌≡◌, map, take}
use Rattle.flow_certificate.specs.Certificates.{arc_of}
use Rattle.flow_certificate.specs.Pictures.{flow_at_link}
use Rattle.flow_certificate.proofs.finishing.links_of.Given as goal

abbrev pub invariant-loop-line : goal.invariant-loop-line
invariant-loop-line l = record {
  arcs : l.lists.arcs ≡ map arc_of (take l.line-index l.lines);
  flows : l.lists.flows ≡ map flow_at_link (take l.line-index l.lines);
}

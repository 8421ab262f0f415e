use Rattle.std.proofs.Common.{◌≡◌, ◌++◌, length, map, true}
use Rattle.std.specs.List.{list_all}
use Rattle.flow_certificate.specs.Keeping.{is_node}
use Rattle.flow_certificate.specs.declared.lines.Line.TheVariants as forms
use Rattle.flow_certificate.specs.Certificates.{lines_text}
use Rattle.flow_certificate.specs.Pictures.{point_lines}
use Rattle.flow_certificate.proofs.writing.put_points.Given as goal

abbrev pub invariant-loop-rest : goal.invariant-loop-rest
invariant-loop-rest l = record {
  named : list_all is_node l.rest ≡ true;
  text : l.text.items ++ lines_text (map forms.Point (point_lines l.rest l.flows_left l.halves_left)) ≡ l.initial.text.items
      ++ lines_text (map forms.Point (point_lines l.nodes l.flows l.halves));
}

abbrev pub decreases-loop-rest : goal.decreases-loop-rest
decreases-loop-rest l = length l.rest

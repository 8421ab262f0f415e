use Rattle.std.proofs.Common.{◌≡◌, ◌++◌, length, map}
use Rattle.flow_certificate.specs.declared.lines.Line.TheVariants as forms
use Rattle.flow_certificate.specs.Certificates.{lines_text}
use Rattle.flow_certificate.specs.Pictures.{link_lines}
use Rattle.flow_certificate.proofs.writing.put_links.Given as goal

abbrev pub invariant-loop-rest : goal.invariant-loop-rest
invariant-loop-rest l =
    l.text.items ++ lines_text (map forms.Link (link_lines l.rest l.flows_left)) ≡ l.initial.text.items
    ++ lines_text (map forms.Link (link_lines l.links l.flows))

abbrev pub decreases-loop-rest : goal.decreases-loop-rest
decreases-loop-rest l = length l.rest

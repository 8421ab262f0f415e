-- The texts of verdicts. Numbers are decimal.
use Rattle.std.specs.Prelude.{ℕ, List, ◌++◌, codes}
use Rattle.std.specs.Fmt.{decimal}
use Rattle.flow_graph.specs.declared.ends.End.{End}
use Rattle.flow_graph.specs.declared.ends.End.TheVariants.{Source, Point, Relay, Sink}
use Rattle.flow_certificate.specs.declared.faults.FormFault.{FormFault}
use Rattle.flow_certificate.specs.declared.faults.FormFault.TheVariants as forms
use Rattle.flow_certificate.specs.declared.verdicts.Member.{Member}
use Rattle.flow_certificate.specs.declared.verdicts.Member.TheVariants as nodes
use Rattle.flow_certificate.specs.declared.verdicts.CertFault.{CertFault}
use Rattle.flow_certificate.specs.declared.verdicts.CertFault.TheVariants.{Over, Unbalanced, OpenAcross, Values}
use Rattle.flow_certificate.specs.declared.verdicts.CertVerdict.{CertVerdict}
use Rattle.flow_certificate.specs.declared.verdicts.CertVerdict.TheVariants.{Verified, Rejected}

-- the end of a link: points are p0, p1 and so on, relays r and the region
abbrev pub end_text : End → List ℕ
end_text Source = codes "source"
end_text (Point index) = codes "p" ++ decimal index
end_text (Relay region) = codes "r" ++ decimal region
end_text Sink = codes "sink"

abbrev pub node_text : Member → List ℕ
node_text (nodes.In point) = codes "p" ++ (decimal point ++ codes ".in")
node_text (nodes.Out point) = codes "p" ++ (decimal point ++ codes ".out")
node_text (nodes.Relay region) = codes "r" ++ decimal region

-- what is wrong with a certificate
abbrev pub certificate_fault_text : CertFault → List ℕ
certificate_fault_text (Over point) = codes "over p" ++ decimal point
certificate_fault_text (Unbalanced node) = codes "unbalanced " ++ node_text node
certificate_fault_text (OpenAcross link) = codes "across " ++ (end_text link.source ++ (codes " " ++ end_text link.target))
certificate_fault_text (Values value flow cut) =
    codes "values value " ++ (decimal value ++ (codes " flow " ++ (decimal flow ++ (codes " cut " ++ decimal cut))))

abbrev pub verdict_text : CertVerdict → List ℕ
verdict_text (Verified value) = codes "verified " ++ decimal value
verdict_text (Rejected fault) = codes "rejected " ++ certificate_fault_text fault

-- why a file is no certificate
abbrev pub form_fault_text : FormFault → List ℕ
form_fault_text (forms.Line line) = codes "line " ++ decimal line
form_fault_text forms.Memory = codes "out of memory"

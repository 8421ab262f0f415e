-- What is printed of a certificate file: the verdict on its certificate.
use Rattle.std.specs.Prelude.{ℕ, List}
use Rattle.flow_graph.specs.declared.graphs.Graph.{Graph}
use Rattle.max_flow.specs.declared.answers.Solved.{Solved}
use Rattle.flow_certificate.specs.declared.verdicts.CertVerdict.{CertVerdict}
use Rattle.flow_certificate.specs.Certificates.{CertText}
use Rattle.flow_certificate.specs.Pictures.{certificate_picture}
use Rattle.flow_certificate.specs.Verdicts.{IsVerdict}

-- the file is the text of a certificate, and this is what the certificate shows
pub record IsJudged (file : List ℕ) (verdict : CertVerdict) : Type 0 where
  pub graph : Graph
  pub solved : Solved
  pub text : CertText file (certificate_picture graph solved)
  pub shows : IsVerdict graph solved verdict

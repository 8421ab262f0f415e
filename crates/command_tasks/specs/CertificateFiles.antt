-- The certificate that a file has.
use Rattle.std.specs.Prelude.{◌≡◌, ℕ, true, List}
use Rattle.flow_graph.specs.declared.graphs.Graph.{Graph}
use Rattle.max_flow.specs.declared.answers.Solved.{Solved}
use Rattle.flow_certificate.specs.Certificates.{CertText}
use Rattle.flow_certificate.specs.Pictures.{have_counts, certificate_picture}

-- the file is the text of this graph with this flow and side, which has a flow for each point and each link, and an
-- answer for each point and each relay
pub record IsCertificate (file : List ℕ) (graph : Graph) (solved : Solved) : Type 0 where
  pub text : CertText file (certificate_picture graph solved)
  pub counts : have_counts graph solved ≡ true

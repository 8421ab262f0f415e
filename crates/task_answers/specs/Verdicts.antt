-- The verdict on a certificate.
use Rattle.std.specs.Prelude.{◌≡◌, ◌++◌, codes, Ok}
use Rattle.flow_graph.specs.declared.graphs.Graph.{Graph}
use Rattle.max_flow.specs.declared.answers.Solved.{Solved}
use Rattle.flow_certificate.specs.declared.verdicts.CertVerdict.{CertVerdict}
use Rattle.flow_certificate.specs.declared.verdicts.CertVerdict.TheVariants as verdicts
use Rattle.flow_certificate.specs.VerdictTexts.{verdict_text}
use Rattle.flow_certificate.specs.Verdicts.{IsVerdict, IsVerified}
use Rattle.command_tasks.specs.declared.statuses.Status.{Status}
use Rattle.command_tasks.specs.declared.statuses.Status.TheVariants.{Done, Rejected}
use Rattle.task_answers.specs.declared.replies.Reply.{Reply}
use Rattle.task_answers.specs.Replies.{Answer}

-- done where the certificate is verified
abbrev pub verdict_status : CertVerdict → Status
verdict_status (verdicts.Verified value) = Done
verdict_status (verdicts.Rejected fault) = Rejected

-- a verdict is told by one line
abbrev pub verdict_reply : CertVerdict → Reply
verdict_reply verdict = record { status = verdict_status verdict; text = verdict_text verdict ++ codes "\n" }

-- a verdict on a certificate, which is that it is verified exactly where it is
pub record IsExactVerdict (graph : Graph) (solved : Solved) (verdict : CertVerdict) : Type 0 where
  pub shows : IsVerdict graph solved verdict
  pub verified : IsVerified graph solved solved.value → verdict ≡ verdicts.Verified solved.value

-- the verdict on a certificate, told by one line
abbrev pub AnswersVerdict : Graph → Solved → Answer → Type 0
AnswersVerdict graph solved answer =
    (verdict : CertVerdict) × IsExactVerdict graph solved verdict × (answer ≡ Ok (verdict_reply verdict))

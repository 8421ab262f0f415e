-- What is told of a run.
use Rattle.std.specs.Prelude.{◌≡◌, ℕ, List, Bool, true, false}
use Rattle.cut_file.specs.Pictures.{cut_picture}
use Rattle.flow_certificate.specs.Certificates.{CertText}
use Rattle.flow_certificate.specs.Pictures.{certificate_picture}
use Rattle.leak_report.specs.JsonReports.{report_json}
use Rattle.leak_report.specs.Reports.{report_text}
use Rattle.max_flow.specs.declared.answers.Solved.{Solved}
use Rattle.measuring.specs.declared.measured.Measured.{Measured}
use Rattle.command_line.specs.declared.tellings.Telling.{Telling}
use Rattle.command_line.specs.declared.tellings.Telling.TheVariants.{CutText, Certificate, Report, Declaration}
use Rattle.command_tasks.specs.Tasks.{RunTask}
use Rattle.task_answers.specs.Replies.{Answer, done_by}
use Rattle.task_answers.specs.CutTexts.{IsCutText}
use Rattle.task_answers.specs.Learning.{AnswersLearning}
use Rattle.task_answers.specs.Runs.{AnswersRun}

-- the text of the cut of a measured run in a version
abbrev pub IsCutOfRun : ℕ → Measured → List ℕ → Type 0
IsCutOfRun version measured text = IsCutText version (cut_picture measured.cut) text

-- its maximum flow and its side
abbrev pub solved_of : Measured → Solved
solved_of measured = record { value = measured.value; flow = measured.flow; side = measured.side }

-- the text of its certificate
abbrev pub IsCertificateText : Measured → List ℕ → Type 0
IsCertificateText measured text = CertText text (certificate_picture measured.graph (solved_of measured))

-- its report, which may be JSON
abbrev pub report_of : Bool → Measured → List ℕ
report_of true measured = report_json measured
report_of false measured = report_text measured

abbrev pub IsReport : Bool → Measured → List ℕ → Type 0
IsReport json measured text = text ≡ report_of json measured

-- what is told of a measured run by a text
abbrev pub Tells : (Measured → List ℕ → Type 0) → Measured → Answer → Type 0
Tells IsText measured answer = (text : List ℕ) × IsText measured text × (answer ≡ done_by text)

-- what is told of a run
abbrev pub AnswersTelling : Telling → RunTask → Answer → Type 0
AnswersTelling (CutText version) run answer = AnswersRun run (Tells (IsCutOfRun version)) answer
AnswersTelling Certificate run answer = AnswersRun run (Tells IsCertificateText) answer
AnswersTelling (Report json) run answer = AnswersRun run (Tells (IsReport json)) answer
AnswersTelling Declaration run answer = AnswersLearning run.guest run.secret run.settings.turns answer

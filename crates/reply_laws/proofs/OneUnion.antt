-- Runs that are measured together have one cut, and no cause not to be: so the answers to `measure-all` are one.
use Rattle.std.proofs.Common.{◌≡◌, ◌∙◌, inl, inr, ℕ, Err, sym, ap, subst, arith}
use Rattle.cut_file.specs.Pictures.{cut_picture}
use Rattle.many_runs.specs.declared.many.Many.{Many}
use Rattle.many_runs.proofs.ManyWithoutCause.{measured_together}
use Rattle.many_runs.proofs.OneMany.{one_many, one_many_cause}
use Rattle.command_tasks.specs.declared.refusals.Refusal.{Refusal}
use Rattle.command_tasks.specs.declared.refusals.Refusal.TheVariants.{Runs as RunsRefused}
use Rattle.command_tasks.specs.Tasks.{ManyRunsTask}
use Rattle.task_answers.specs.Replies.{Answer, done_by}
use Rattle.task_answers.specs.CutTexts.{IsCutText}
use Rattle.task_answers.specs.Many.{AnswersMany, AreMeasured, IsRunsRefusal, setup_in}
use Rattle.commands.proofs.Readings.{status_of}
use Rattle.reply_laws.specs.Laws.{CompletesRuns}
use Rattle.reply_laws.proofs.CutTexts.{one_cut_text}
use Rattle.transfer_rules.specs.Tables.{IsDeciding}

no_cause : (runs : ManyRunsTask) (many : Many) (refusal : Refusal) → IsDeciding runs.settings.table → AreMeasured runs many →
    IsRunsRefusal runs refusal → ⊥
no_cause runs many refusal deciding are (fault, (cause, room), e) =
    room (measured_together (setup_in runs) runs.secrets many fault deciding are.measures cause)

pub many_same : (version : ℕ) (runs : ManyRunsTask) (first second : Answer) → IsDeciding runs.settings.table →
    AnswersMany version runs first → AnswersMany version runs second → first ≡ second
many_same version runs first second deciding (inl (refusal, (fault, (cause, room), e), f)) (inl (other, (also, (was, rooms), g), h)) =
    let same = one_many_cause (setup_in runs) runs.secrets fault also deciding cause was room rooms in
    f ∙ (ap (λ r. Err r) (e ∙ (ap (λ x. RunsRefused x) same ∙ sym g)) ∙ sym h)
many_same version runs first second deciding (inl (refusal, is, e)) (inr (many, also, answers)) =
    absurd (no_cause runs many refusal deciding also is)
many_same version runs first second deciding (inr (many, is, answers)) (inl (refusal, also, e)) =
    absurd (no_cause runs many refusal deciding is also)
many_same version runs first second deciding (inr (many, is, (text, told, e))) (inr (other, also, (words, more, f))) =
    let cuts : cut_picture many.cut ≡ cut_picture other.cut = one_many (setup_in runs) runs.secrets many other deciding
    is.measures also.measures in
    let here : IsCutText version (cut_picture other.cut) text = subst (λ c. IsCutText version c text) cuts told in
    e ∙ (ap done_by (one_cut_text version (cut_picture other.cut) text words here more) ∙ sym f)

pub many_completes : (version : ℕ) (runs : ManyRunsTask) (answer : Answer) → IsDeciding runs.settings.table →
    AnswersMany version runs answer → CompletesRuns runs (status_of answer)
many_completes version runs answer deciding (inl (refusal, (fault, (cause, room), e), f)) =
    let four : status_of answer ≡ 4 = ap status_of (f ∙ ap (λ r. Err r) e) in
    record {
      known = inr four;
      measured = λ zero. absurd (omega (arith, four, zero));
      done = λ none. absurd (room (none fault cause));
    }
many_completes version runs answer deciding (inr (many, is, (text, told, e))) =
    let zero : status_of answer ≡ 0 = ap status_of e in
    record {
      known = inl zero;
      measured = λ z. λ fault. λ cause.
          measured_together (setup_in runs) runs.secrets many fault deciding is.measures cause;
      done = λ none. zero;
    }

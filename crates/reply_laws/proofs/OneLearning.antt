-- A run has one declaration at most, and none where one is refused: so the answers to `learn` are one.
use Rattle.std.proofs.Common.{◌≡◌, ◌∙◌, inl, inr, ℕ, List, Option, Some, None, Err, refl, sym, ap, arith}
use Rattle.enclosure_regions.specs.declared.region_parts.Region.{Region}
use Rattle.region_learn.specs.declared.faults.LearnFault.{LearnFault}
use Rattle.region_learn.specs.LearnAnswers.{Grants, RefusesToLearn, declaration_fault}
use Rattle.region_learn.specs.Written.{Run as LearntRun}
use Rattle.region_learn.proofs.OneDeclaration.{learnt_is_one}
use Rattle.command_tasks.specs.declared.refusals.Refusal.TheVariants.{Learn}
use Rattle.command_tasks.specs.Guests.{Guest}
use Rattle.command_tasks.specs.Tasks.{RunTask}
use Rattle.task_answers.specs.Replies.{Answer, done_by}
use Rattle.task_answers.specs.Learning.{AnswersLearning, IsDeclaration, IsLearnRefusal, TellsRegions, learnt_run}
use Rattle.commands.proofs.Readings.{IsReading, reads_one, status_of}
use Rattle.reply_laws.specs.Laws.{CompletesLearning}

-- ---- faults

some_none : (found : Option LearnFault) (fault : LearnFault) → found ≡ None → found ≡ Some fault → ⊥
some_none found fault e f = cc

same_some : (found : Option LearnFault) (a b : LearnFault) → found ≡ Some a → found ≡ Some b → a ≡ b
same_some found a b e f = cc

-- a declaration that is granted is not refused
no_refusal : (run : LearntRun) (regions : List Region) (fault : LearnFault) → Grants run regions → RefusesToLearn run fault → ⊥
no_refusal run regions fault grants (inl is) = some_none _ fault grants.exits is
no_refusal run regions fault grants (inr (others, exits, learnt, is)) =
    some_none (declaration_fault regions) fault grants.fits
    (ap declaration_fault (learnt_is_one run regions others grants.learnt learnt) ∙ is)

one_refusal : (run : LearntRun) (a b : LearnFault) → RefusesToLearn run a → RefusesToLearn run b → a ≡ b
one_refusal run a b (inl is) (inl also) = same_some _ a b is also
one_refusal run a b (inl is) (inr (regions, exits, learnt, also)) = absurd (some_none _ a exits is)
one_refusal run a b (inr (regions, exits, learnt, is)) (inl also) = absurd (some_none _ b exits also)
one_refusal run a b (inr (regions, exits, learnt, is)) (inr (others, alike, same, also)) =
    same_some (declaration_fault regions) a b is
    (ap declaration_fault (learnt_is_one run regions others learnt same) ∙ also)

-- ---- answers

reading : (guest : Guest) (secret : List ℕ) (turns : ℕ) →
    IsReading (List Region) (IsDeclaration guest secret turns) (IsLearnRefusal guest secret turns)
reading guest secret turns = record {
  one = λ a b is also. learnt_is_one (learnt_run guest secret turns) a b is.grants.learnt also.grants.learnt;
  none = λ regions refusal is (fault, refuses, e).
      no_refusal (learnt_run guest secret turns) regions fault is.grants refuses;
  refused = λ first second (a, is, e) (b, also, f).
      e ∙ (ap (λ x. Learn x) (one_refusal (learnt_run guest secret turns) a b is also) ∙ sym f);
}

pub learning_same : (guest : Guest) (secret : List ℕ) (turns : ℕ) (first second : Answer) →
    AnswersLearning guest secret turns first → AnswersLearning guest secret turns second → first ≡ second
learning_same guest secret turns first second =
    reads_one (List Region) (IsDeclaration guest secret turns) (IsLearnRefusal guest secret turns) TellsRegions
    (λ a b. a ≡ b) (λ answer. refl) (reading guest secret turns) first second
    (λ regions is (text, texts, spells, e) (words, also, spelt, f). e ∙ (ap done_by (texts ∙ sym also) ∙ sym f))

pub learning_completes : (run : RunTask) (answer : Answer) → AnswersLearning run.guest run.secret run.settings.turns answer →
    CompletesLearning run (status_of answer)
learning_completes run answer (inl (refusal, (fault, refuses, e), f)) =
    let four : status_of answer ≡ 4 = ap status_of (f ∙ ap (λ r. Err r) e) in
    record {
      known = inr four;
      learnt = λ zero. absurd (omega (arith, four, zero));
      done = λ none. absurd (none fault refuses);
    }
learning_completes run answer (inr (regions, is, (text, texts, spells, e))) =
    let zero : status_of answer ≡ 0 = ap status_of e in
    record {
      known = inl zero;
      learnt = λ z. λ fault. λ refuses.
          no_refusal (learnt_run run.guest run.secret run.settings.turns) regions fault is.grants refuses;
      done = λ none. zero;
    }

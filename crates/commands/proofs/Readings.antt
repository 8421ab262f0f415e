-- What is read is one thing, and where it is, nothing is wrong with it: so the answers to it are one, and are those to
-- what it is known to be.
use Rattle.std.proofs.Common.{◌≡◌, ◌≤◌, ◌<◌, ◌∙◌, inl, inr, ℕ, List, Option, Some, None, Ok, Err, sym, ap, subst, arith}
use Rattle.flow_base.specs.Loads.{Told}
use Rattle.command_line.specs.CommandLines.{Command, IsCommand, IsNoCommand, command_in}
use Rattle.command_tasks.specs.declared.refusals.Refusal.{Refusal}
use Rattle.command_tasks.specs.declared.refusals.Refusal.TheVariants.{Usage}
use Rattle.command_tasks.specs.Loading.{Loads}
use Rattle.command_tasks.specs.Statuses.{status_number}
use Rattle.command_tasks.specs.Tasks.{IsFormRefusal, IsTaskOf, wants_of}
use Rattle.task_answers.specs.Replies.{Answer, Reads, told}
use Rattle.task_answers.specs.AnsweredTasks.{AnswersTask}
use Rattle.commands.specs.Replies.{AnswersWords}

-- the status that an answer is told with
abbrev pub status_of : Answer → ℕ
status_of answer = status_number (told answer).status

-- two answers of one status
abbrev pub AreOne : Answer → Answer → Type 0
AreOne first second = status_of first ≡ status_of second

pub record IsReading (A : Type 0) (Is : A → Type 0) (IsRefused : Refusal → Type 0) : Type 0 where
  pub one : (a b : A) → Is a → Is b → a ≡ b
  pub none : (a : A) (refusal : Refusal) → Is a → IsRefused refusal → ⊥
  pub refused : (first second : Refusal) → IsRefused first → IsRefused second → first ≡ second

-- what is known to be read is answered
pub reads_it : (A : Type 0) (Is : A → Type 0) (IsRefused : Refusal → Type 0) (Answers : A → Answer → Type 0) →
    IsReading A Is IsRefused → (it : A) (answer : Answer) → Is it → Reads Is IsRefused Answers answer →
    Answers it answer
reads_it A Is IsRefused Answers law it answer is (inl (refusal, refused, e)) = absurd (law.none it refusal is refused)
reads_it A Is IsRefused Answers law it answer is (inr (other, also, answers)) =
    subst (λ x. Answers x answer) (law.one other it also is) answers

-- two answers are alike, in whatever way, where those to what is read are
pub reads_one : (A : Type 0) (Is : A → Type 0) (IsRefused : Refusal → Type 0) (Answers : A → Answer → Type 0)
    (Alike : Answer → Answer → Type 0) → ((answer : Answer) → Alike answer answer) → IsReading A Is IsRefused →
    (first second : Answer) → ((it : A) → Is it → Answers it first → Answers it second → Alike first second) →
    Reads Is IsRefused Answers first → Reads Is IsRefused Answers second → Alike first second
reads_one A Is IsRefused Answers Alike self law first second step (inl (refusal, refused, e)) (inl (other, also, f)) =
    let same : first ≡ second = e ∙ (ap (λ r. Err r) (law.refused refusal other refused also) ∙ sym f) in
    subst (λ answer. Alike first answer) same (self first)
reads_one A Is IsRefused Answers Alike self law first second step (inl (refusal, refused, e)) (inr (it, is, answers)) =
    absurd (law.none it refusal is refused)
reads_one A Is IsRefused Answers Alike self law first second step (inr (it, is, answers)) other =
    step it is answers (reads_it A Is IsRefused Answers law it second is other)

-- an answer with status 0 or 1 is none of a refusal of a greater status
pub reads_low : (A : Type 0) (Is : A → Type 0) (IsRefused : Refusal → Type 0) (Answers : A → Answer → Type 0) →
    ((refusal : Refusal) → IsRefused refusal → 1 < status_of (Err refusal)) → (answer : Answer) →
    status_of answer ≤ 1 → Reads Is IsRefused Answers answer → (it : A) × Is it × Answers it answer
reads_low A Is IsRefused Answers high answer low (inl (refusal, refused, e)) =
    let above = high refusal refused in
    let same = ap status_of e in
    absurd (too-high (status_of answer) (status_of (Err refusal)) same low above)
  where
    too-high : (n m : ℕ) → n ≡ m → n ≤ 1 → 1 < m → ⊥
    too-high n m e low above = omega arith
reads_low A Is IsRefused Answers high answer low (inr (it, is, answers)) = (it, is, answers)

-- ---- words

-- the answer of a command to its files
abbrev pub AnswersFiles : Command → List (List ℕ) → Answer → Type 0
AnswersFiles command files answer = Reads (IsTaskOf command files) (IsFormRefusal command files) AnswersTask answer

-- the answer of a command to what its loads give
abbrev pub AnswersCommand : Option Told → Command → Answer → Type 0
AnswersCommand source command answer =
    Reads (λ files. Loads source (wants_of command) (Ok files))
    (λ refusal. Loads source (wants_of command) (Err refusal)) (AnswersFiles command) answer

abbrev pub IsUsage : List (List ℕ) → Refusal → Type 0
IsUsage words refusal = IsNoCommand words × (refusal ≡ Usage)

-- the answer to words, read step by step
abbrev pub ReadsWords : Option Told → List (List ℕ) → Answer → Type 0
ReadsWords source words answer = Reads (IsCommand words) (IsUsage words) (AnswersCommand source) answer

pub reads_words : (source : Option Told) (words : List (List ℕ)) (answer : Answer) →
    AnswersWords source words answer → ReadsWords source words answer
reads_words source words answer (inl (refusal, inl (none, u), e)) = inl (refusal, (none, u), e)
reads_words source words answer (inl (refusal, inr (command, named, inl loads), e)) =
    inr (command, named, inl (refusal, loads, e))
reads_words source words answer (inl (refusal, inr (command, named, inr (files, loads, form)), e)) =
    inr (command, named, inr (files, loads, inl (refusal, form, e)))
reads_words source words answer (inr it) =
    inr (it.command, it.named, inr (it.files, it.loads, inr (it.task, it.spelled, it.answers)))

one_command : (read : Option Command) (a b : Command) → read ≡ Some a → read ≡ Some b → a ≡ b
one_command read a b one other = cc

no_command : (read : Option Command) (command : Command) → read ≡ Some command → read ≡ None → ⊥
no_command read command is none = cc

pub words_reading : (words : List (List ℕ)) → IsReading Command (IsCommand words) (IsUsage words)
words_reading words = record {
  one = one_command (command_in words);
  none = λ command refusal is (none, e). no_command (command_in words) command is none;
  refused = λ first second (none, e) (also, f). e ∙ sym f;
}

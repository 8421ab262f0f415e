-- The verdict of a check with one machine is one: so the answers to `taint` are one.
use Rattle.std.proofs.Common.{◌≡◌, ◌≤◌, ◌==◌, ◌∙◌, ℕ, List, [], ◌∷◌, length, Bool, true, false, Ok, refl, sym, ap, ap₂, subst, arith, if◌then◌else◌}
use Rattle.std.proofs.lemmas.Bool.Decides.{nat_tests}
use Rattle.std.specs.List.{AllByRecursion}
use Rattle.flow_base.specs.declared.outputs.Output.{Output}
use Rattle.lockstep_replay.specs.Tasks.{Task as JudgedTask, Limits}
use Rattle.taint_check.specs.declared.whys.TaintWhy.{TaintWhy}
use Rattle.taint_check.specs.Tainted.{Finding, IsClean, IsUnclear}
use Rattle.taint_check.proofs.OneVerdict.{one_verdict}
use Rattle.command_tasks.specs.declared.statuses.Status.TheVariants.{Done, Rejected}
use Rattle.command_tasks.specs.Statuses.{status_number}
use Rattle.task_answers.specs.Replies.{Answer}
use Rattle.task_answers.specs.Finding.{AnswersTaint, AreFindings, findings_reply}
use Rattle.task_answers.specs.Texts.{clean_count}
use Rattle.commands.proofs.Readings.{status_of}
use Rattle.reply_laws.specs.Laws.{CompletesTaint, HasClean}
use Rattle.transfer_rules.specs.Tables.{IsDeciding}

-- ---- findings are one

one_findings : (table : ℕ) (task : JudgedTask) (limits : Limits) (secrets : List (List ℕ)) (first second : List Finding) →
    IsDeciding table → AreFindings table task limits secrets first → AreFindings table task limits secrets second →
    first ≡ second
one_findings table task limits [] [] [] deciding one other = refl
one_findings table task limits [] [] (b ∷ second) deciding one other = absurd other
one_findings table task limits [] (a ∷ first) second deciding one other = absurd one
one_findings table task limits (secret ∷ secrets) [] second deciding one other = absurd one
one_findings table task limits (secret ∷ secrets) (a ∷ first) [] deciding one other = absurd other
one_findings table task limits (secret ∷ secrets) (a ∷ first) (b ∷ second) deciding one other =
    ap₂ (λ (x : Finding) (l : List Finding). x ∷ l)
    (one_verdict table task limits secret a b deciding one.0.verdict other.0.verdict)
    (one_findings table task limits secrets first second deciding one.1 other.1)

pub taint_same : (table : ℕ) (task : JudgedTask) (limits : Limits) (secrets : List (List ℕ)) (first second : Answer) →
    IsDeciding table → AnswersTaint table task limits secrets first → AnswersTaint table task limits secrets second →
    first ≡ second
taint_same table task limits secrets first second deciding (findings, are, e) (others, also, f) =
    let answer : List Finding → Answer = λ l. Ok (findings_reply l limits.budget) in
    e ∙ (ap answer (one_findings table task limits secrets findings others deciding are also) ∙ sym f)

-- ---- its status

count_most : (findings : List Finding) → clean_count findings ≤ length findings
count_most [] = omega arith
count_most (IsClean bits output ∷ findings) = let few = count_most findings in omega (arith, few)
count_most (IsUnclear why ∷ findings) = let few = count_most findings in omega (arith, few)

all_clean : (table : ℕ) (task : JudgedTask) (limits : Limits) (secrets : List (List ℕ)) (findings : List Finding) →
    AreFindings table task limits secrets findings → clean_count findings ≡ length findings →
    AllByRecursion (HasClean table task limits) secrets
all_clean table task limits [] findings are all = tt
all_clean table task limits (secret ∷ secrets) [] are all = absurd are
all_clean table task limits (secret ∷ secrets) (IsClean bits output ∷ findings) are all =
    ((bits, output, are.0.verdict), all_clean table task limits secrets findings are.1 (omega (arith, all)))
all_clean table task limits (secret ∷ secrets) (IsUnclear why ∷ findings) are all =
    let few = count_most findings in absurd (omega (arith, all, few))

clean_unclear : (why : TaintWhy) (bits : List Bool) (output : Output) → IsUnclear why ≡ IsClean bits output → ⊥
clean_unclear why bits output e = absurd cc

all_counted : (table : ℕ) (task : JudgedTask) (limits : Limits) (secrets : List (List ℕ)) (findings : List Finding) →
    IsDeciding table → AreFindings table task limits secrets findings →
    AllByRecursion (HasClean table task limits) secrets → clean_count findings ≡ length findings
all_counted table task limits [] [] deciding are all = refl
all_counted table task limits [] (finding ∷ findings) deciding are all = absurd are
all_counted table task limits (secret ∷ secrets) [] deciding are all = absurd are
all_counted table task limits (secret ∷ secrets) (IsClean bits output ∷ findings) deciding are all =
    let rest = all_counted table task limits secrets findings deciding are.1 all.1 in omega (arith, rest)
all_counted table task limits (secret ∷ secrets) (IsUnclear why ∷ findings) deciding are ((bits, output, is), all) =
    absurd (clean_unclear why bits output
    (one_verdict table task limits secret (IsUnclear why) (IsClean bits output) deciding are.0.verdict is))

-- the status by whether the counts are the same
taint_by : (table : ℕ) (task : JudgedTask) (limits : Limits) (secrets : List (List ℕ)) (findings : List Finding)
    (same : Bool) → IsDeciding table → AreFindings table task limits secrets findings →
    (clean_count findings == length findings) ≡ same →
    CompletesTaint table task limits secrets (status_number (if same then Done else Rejected))
taint_by table task limits secrets findings true deciding are e = record {
  known = omega arith;
  clean = λ zero. all_clean table task limits secrets findings are (grind (arith, nat_tests, e));
  done = λ all. refl;
}
taint_by table task limits secrets findings false deciding are e = record {
  known = omega arith;
  clean = λ zero. absurd (omega (arith, zero));
  done = λ all.
      let counted = all_counted table task limits secrets findings deciding are all in
      absurd (grind (arith, nat_tests, counted, e));
}

pub taint_completes : (table : ℕ) (task : JudgedTask) (limits : Limits) (secrets : List (List ℕ)) (answer : Answer) →
    IsDeciding table → AnswersTaint table task limits secrets answer →
    CompletesTaint table task limits secrets (status_of answer)
taint_completes table task limits secrets answer deciding (findings, are, e) =
    let counts : Bool = clean_count findings == length findings in
    let status : status_number (if counts then Done else Rejected) ≡ status_of answer = ap status_of (sym e) in
    subst (λ s. CompletesTaint table task limits secrets s) status
    (taint_by table task limits secrets findings counts deciding are refl)

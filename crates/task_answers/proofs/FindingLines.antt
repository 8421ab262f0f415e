-- The lines and the counts of findings, one secret after another.
use Rattle.std.proofs.Common.{◌≡◌, ◌==◌, ◌+◌, ◌++◌, ◌∙◌, codes, ℕ, suc, List, [], ◌∷◌, length, refl, sym, ap, ap₂, arith, if◌then◌else◌}
use Rattle.std.proofs.lemmas.List.{append_assoc, append-nil}
use Rattle.lockstep_replay.specs.Tasks.{Task as JudgedTask, Limits}
use Rattle.taint_check.specs.Tainted.{Finding, IsClean, IsUnclear}
use Rattle.command_tasks.specs.declared.statuses.Status.{Status}
use Rattle.command_tasks.specs.declared.statuses.Status.TheVariants.{Done, Rejected}
use Rattle.task_answers.specs.declared.replies.Reply.{Reply}
use Rattle.task_answers.specs.Finding.{AreFindings, findings_reply}
use Rattle.task_answers.specs.Texts.{clean_count, counts_line, finding_line, finding_lines}

pub length_findings : (table : ℕ) (task : JudgedTask) (limits : Limits) (secrets : List (List ℕ))
    (findings : List Finding) → AreFindings table task limits secrets findings → length findings ≡ length secrets
length_findings table task limits [] [] are = refl
length_findings table task limits [] (finding ∷ findings) are = absurd are
length_findings table task limits (secret ∷ secrets) [] are = absurd are
length_findings table task limits (secret ∷ secrets) (finding ∷ findings) are =
    ap (λ n. suc n) (length_findings table task limits secrets findings are.1)

-- ---- one secret after another

clean_split : (finding : Finding) (rest : List Finding) →
    clean_count (finding ∷ rest) ≡ clean_count (finding ∷ []) + clean_count rest
clean_split (IsClean bits output) rest = omega arith
clean_split (IsUnclear why) rest = omega arith

abbrev WithRest : ℕ → JudgedTask → Limits → List (List ℕ) → List ℕ → ℕ → ℕ → List Finding → Type 0
WithRest table task limits secrets text number clean rest =
    (findings : List Finding) × AreFindings table task limits secrets findings
    × (text ++ finding_lines (number + 1) rest ≡ finding_lines 1 findings)
    × (clean + clean_count rest ≡ clean_count findings)

pub next_finding : (table : ℕ) (task : JudgedTask) (limits : Limits) (secrets : List (List ℕ)) (text line more : List ℕ)
    (number later clean one : ℕ) (finding : Finding) (rest : List Finding) → later ≡ number + 1 → more ≡ text ++ line →
    line ≡ finding_line later finding → one ≡ clean_count (finding ∷ []) →
    WithRest table task limits secrets text number clean (finding ∷ rest) →
    WithRest table task limits secrets more later (clean + one) rest
next_finding table task limits secrets text line more number later clean one finding rest next appended is counted (findings, are, lines, counts) =
    let split = clean_split finding rest in
    let tail : List ℕ = finding_lines (later + 1) rest in
    let here : finding_line later finding ++ tail ≡ finding_lines (number + 1) (finding ∷ rest) =
    ap (λ n. finding_line n finding ++ finding_lines (n + 1) rest) next in
    let whole : more ++ tail ≡ text ++ (line ++ tail) = ap (λ l. l ++ tail) appended ∙ append_assoc text line tail in (
      findings,
      are,
      whole ∙ (ap (λ l. text ++ l) (ap (λ l. l ++ tail) is ∙ here) ∙ lines),
      omega (arith, split, counts, counted),
    )

-- with none left
pub all_findings : (table : ℕ) (task : JudgedTask) (limits : Limits) (secrets : List (List ℕ)) (text : List ℕ)
    (number clean : ℕ) → WithRest table task limits secrets text number clean [] →
    (findings : List Finding) × AreFindings table task limits secrets findings × (text ≡ finding_lines 1 findings)
    × (clean ≡ clean_count findings)
all_findings table task limits secrets text number clean (findings, are, lines, counts) =
    (findings, are, sym (append-nil text) ∙ lines, omega (arith, counts))

-- the reply of so many lines and counts is that of the findings
made : Status → List ℕ → Reply
made status text = record { status = status; text = text }

pub made_reply : (status : Status) (text lines counts : List ℕ) (clean checked budget : ℕ) (findings : List Finding) →
    status ≡ (if clean == checked then Done else Rejected) → text ≡ lines ++ counts → lines ≡ finding_lines 1 findings →
    counts ≡ counts_line (codes "clean") checked clean budget → clean ≡ clean_count findings →
    checked ≡ length findings → record { status = status; text = text } ≡ findings_reply findings budget
unfolding made
made_reply status text lines counts clean checked budget findings one two three four five six =
    ap₂ made
    (one ∙ (ap (λ n. if n == checked then Done else Rejected) five
    ∙ ap (λ n. if clean_count findings == n then Done else Rejected) six))
    (two ∙ (ap (λ l. l ++ counts) three ∙ ap (λ k. finding_lines 1 findings ++ k)
    (four ∙ (ap (λ n. counts_line (codes "clean") n clean budget) six
    ∙ ap (λ n. counts_line (codes "clean") (length findings) n budget) five))))

-- The texts that a check prints. Numbers are decimal.
use Rattle.std.specs.Prelude.{ℕ, ◌+◌, List, [], ◌∷◌, ◌++◌, length, codes}
use Rattle.std.specs.Fmt.{decimal}
use Rattle.leak_report.specs.VerdictLines.{taken_line, verdict_line}
use Rattle.lockstep_replay.specs.Verdicts.{Judgement, Accepts, Rejects}
use Rattle.taint_check.specs.Whys.{taint_text}
use Rattle.taint_check.specs.Tainted.{Finding, IsClean, IsUnclear}

abbrev pub verdict_lines : ℕ → List Judgement → List ℕ
verdict_lines number [] = []
verdict_lines number (judgement ∷ judgements) = verdict_line number judgement ++ verdict_lines (number + 1) judgements

abbrev pub accepted_count : List Judgement → ℕ
accepted_count [] = 0
accepted_count (Accepts bits output ∷ judgements) = 1 + accepted_count judgements
accepted_count (Rejects why ∷ judgements) = accepted_count judgements

-- the line of counts, with a word for those that are taken
abbrev pub counts_line : List ℕ → ℕ → ℕ → ℕ → List ℕ
counts_line word checked taken budget =
    codes "checked " ++ (decimal checked ++ (codes " " ++ (word ++ (codes " " ++ (decimal taken ++ (codes " budget "
    ++ (decimal budget ++ codes "\n")))))))

-- a line for each secret, counted from 1, and the line of counts
abbrev pub check_text : List Judgement → ℕ → List ℕ
check_text judgements budget =
    verdict_lines 1 judgements ++ counts_line (codes "accepted") (length judgements) (accepted_count judgements) budget

-- ---- with one machine

-- the line of the secret with this number
abbrev pub finding_line : ℕ → Finding → List ℕ
finding_line number (IsClean bits output) = taken_line (codes "clean") number bits output
finding_line number (IsUnclear why) =
    codes "unclear " ++ (decimal number ++ (codes " " ++ (taint_text why ++ codes "\n")))

abbrev pub finding_lines : ℕ → List Finding → List ℕ
finding_lines number [] = []
finding_lines number (finding ∷ findings) = finding_line number finding ++ finding_lines (number + 1) findings

abbrev pub clean_count : List Finding → ℕ
clean_count [] = 0
clean_count (IsClean bits output ∷ findings) = 1 + clean_count findings
clean_count (IsUnclear why ∷ findings) = clean_count findings

-- a line for each secret, counted from 1, and the line of counts
abbrev pub findings_text : List Finding → ℕ → List ℕ
findings_text findings budget =
    finding_lines 1 findings ++ counts_line (codes "clean") (length findings) (clean_count findings) budget

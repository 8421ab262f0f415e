-- A check of secrets with one machine.
use Rattle.std.specs.Prelude.{◌≡◌, ◌==◌, ℕ, List, [], ◌∷◌, length, Ok, if◌then◌else◌}
use Rattle.lockstep_replay.specs.Tasks.{Task as JudgedTask, Limits}
use Rattle.taint_check.specs.Laws.{IsAcceptedIfClean}
use Rattle.taint_check.specs.Tainted.{Finding, IsVerdict}
use Rattle.command_tasks.specs.declared.statuses.Status.TheVariants.{Done, Rejected}
use Rattle.task_answers.specs.declared.replies.Reply.{Reply}
use Rattle.task_answers.specs.Replies.{Answer}
use Rattle.task_answers.specs.Texts.{findings_text, clean_count}

-- what is found of a secret by the mask rules of a table; where it is clean, the secret is accepted
pub record IsFinding (table : ℕ) (task : JudgedTask) (limits : Limits) (secret : List ℕ) (finding : Finding) :
    Type 0 where
  pub verdict : IsVerdict table task limits secret finding
  pub accepted : IsAcceptedIfClean task limits secret finding

-- of each secret, in order, from a fresh start
abbrev pub AreFindings : ℕ → JudgedTask → Limits → List (List ℕ) → List Finding → Type 0
AreFindings table task limits [] [] = Unit {0}
AreFindings table task limits [] (finding ∷ findings) = ⊥
AreFindings table task limits (secret ∷ secrets) [] = ⊥
AreFindings table task limits (secret ∷ secrets) (finding ∷ findings) =
    IsFinding table task limits secret finding × AreFindings table task limits secrets findings

-- done where every secret is clean
abbrev pub findings_reply : List Finding → ℕ → Reply
findings_reply findings budget = record {
  status = if clean_count findings == length findings then Done else Rejected;
  text = findings_text findings budget;
}

abbrev pub AnswersTaint : ℕ → JudgedTask → Limits → List (List ℕ) → Answer → Type 0
AnswersTaint table task limits secrets answer =
    (findings : List Finding) × AreFindings table task limits secrets findings
    × (answer ≡ Ok (findings_reply findings limits.budget))

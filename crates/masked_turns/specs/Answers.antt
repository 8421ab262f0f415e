-- What is known of the answers of mask rules in a turn.
use Rattle.std.specs.Prelude.{ℕ, List, ◌∷◌}
use Rattle.flow_base.specs.declared.points.Point.{Point}
use Rattle.rv32im_machine.specs.declared.language.Operation.{Operation}
use Rattle.rv32im_machine.specs.Language.{Walk, Looked, Passed, Moved, Saved, Restored, Ended, first_of}
use Rattle.transfer_rules.specs.declared.operands.Operands.{Operands}
use Rattle.run_labels.specs.Answers.{HoldsOfAnswer, IsSoundAnswer, IsTableAnswer}
use Rattle.run_labels.specs.Masks.{masks_of, answers_after, moved_label}
use Rattle.run_labels.specs.TurnLabels.{TurnLabels, put_label, save_labels, restore_labels}
use Rattle.masked_turns.specs.Clearing.{Cutting, labels_passed}

-- the fact holds of each answer that a turn takes in which every value goes on as it is
unfoldable pub EachCleared : (Operation → Operands → ℕ → Type 0) → Cutting → List Point → TurnLabels → List ℕ → Walk →
    Type 0
EachCleared Fact cutting past labels answers (Looked seen value walk) = EachCleared Fact cutting past labels answers walk
EachCleared Fact cutting past labels answers (Passed passing go) =
    HoldsOfAnswer Fact passing.work (masks_of labels passing.sources) (first_of answers)
    × EachCleared Fact cutting (passing.point ∷ past) (labels_passed cutting past labels (first_of answers) passing)
    (answers_after passing.work answers) (go passing.value)
EachCleared Fact cutting past labels answers (Moved place shape source value walk) =
    EachCleared Fact cutting past (put_label place (moved_label labels shape source) labels) answers walk
EachCleared Fact cutting past labels answers (Saved walk) = EachCleared Fact cutting past (save_labels labels) answers walk
EachCleared Fact cutting past labels answers (Restored registers walk replayed) =
    EachCleared Fact cutting past (restore_labels registers labels) answers walk
EachCleared Fact cutting past labels answers (Ended state) = Unit {0}

-- each answer is sound, and one of the table
pub record AreWalkAnswers (table : ℕ) (cutting : Cutting) (past : List Point) (labels : TurnLabels) (answers : List ℕ)
    (walk : Walk) : Type 0 where
  pub sound : EachCleared IsSoundAnswer cutting past labels answers walk
  pub by_table : EachCleared (IsTableAnswer table) cutting past labels answers walk

-- The answers of a table decide the masks of a turn: for two lists of answers that are both by one of tables 1 to 3, the
-- masks after it, its first look and the first bits left at a decision are the same.
use Rattle.std.proofs.Common.{◌≡◌, ℕ, List, ◌∷◌, Bool, true, false, refl, sym, ap, subst, ◌∙◌}
use Rattle.flow_base.specs.declared.points.Point.{Point}
use Rattle.rv32im_machine.specs.declared.language.Passing.{Passing}
use Rattle.rv32im_machine.specs.Language.{Walk, Looked, Passed, Moved, Saved, Restored, Ended, first_of}
use Rattle.shadow_masks.specs.Pages.{label_of}
use Rattle.run_labels.specs.Answers.{HoldsOfAnswer, IsTableAnswer}
use Rattle.run_labels.specs.Masks.{answers_after, masks_of, moved_label}
use Rattle.run_labels.specs.Runs.{entered_number}
use Rattle.run_labels.specs.TurnLabels.{TurnLabels, aim_label, at_start, put_label, save_labels, restore_labels}
use Rattle.lockstep_replay.specs.Tasks.{Task}
use Rattle.masked_turns.specs.Answers.{EachCleared}
use Rattle.masked_turns.specs.Clearing.{Cutting, aimed_mask, cleared_in, crossing_at, left_mask, uncrossed}
use Rattle.masked_turns.specs.Deciding.{first_left, left_at, left_in}
use Rattle.masked_turns.specs.Looking.{first_look, look_at, looked_in}
use Rattle.taint_check.specs.Cleared.{AnswersUnless, MaskedRun, cutting_at, kind_at, labels_unless, walk_at}
use Rattle.taint_check.specs.Reasons.{left_unless, look_unless}
use Rattle.flow_base.specs.Points.{nowhere}
use Rattle.transfer_rules.specs.Tables.{IsDeciding}
use Rattle.run_labels.proofs.TableAnswers.{same_work}

-- ---- one passing

same_left : (table : ℕ) → IsDeciding table → (skipped : Bool) (crossing : ℕ) (labels : TurnLabels) (passing : Passing)
    (first second : ℕ) → HoldsOfAnswer (IsTableAnswer table) passing.work (masks_of labels passing.sources) first →
    HoldsOfAnswer (IsTableAnswer table) passing.work (masks_of labels passing.sources) second →
    left_mask skipped crossing labels first passing ≡ left_mask skipped crossing labels second passing
same_left table deciding skipped crossing labels passing first second by also =
    ap (λ mask. uncrossed (aimed_mask skipped passing.aim passing.point.slot mask) crossing)
    (same_work table deciding passing.work (masks_of labels passing.sources) first second by also)

-- the masks after a passing of which this mask is left
abbrev labels_by : TurnLabels → Passing → ℕ → TurnLabels
labels_by labels passing mask = aim_label passing.aim (label_of mask nowhere) labels

-- ---- one turn

record Same (cutting : Cutting) (past : List Point) (labels : TurnLabels) (first second : List ℕ)
    (walk : Walk) : Type 0 where
  labels_are : cleared_in cutting past labels first walk ≡ cleared_in cutting past labels second walk
  looks_are : (region : ℕ) →
      looked_in region cutting past labels first walk ≡ looked_in region cutting past labels second walk
  left_are : left_in cutting past labels first walk ≡ left_in cutting past labels second walk

same_passed : (cutting : Cutting) (past : List Point) (labels : TurnLabels) (later other : List ℕ) (passing : Passing)
    (walk : Walk) (m n : ℕ) → m ≡ n → Same cutting past (labels_by labels passing m) later other walk →
    (cleared_in cutting past (labels_by labels passing m) later walk
    ≡ cleared_in cutting past (labels_by labels passing n) other walk)
    × ((region : ℕ) → looked_in region cutting past (labels_by labels passing m) later walk
    ≡ looked_in region cutting past (labels_by labels passing n) other walk)
    × (first_left (left_at passing.aim passing.point m) (left_in cutting past (labels_by labels passing m) later walk)
    ≡ first_left (left_at passing.aim passing.point n) (left_in cutting past (labels_by labels passing n) other walk))
same_passed cutting past labels later other passing walk m n same go = (
  go.labels_are ∙ ap (λ x. cleared_in cutting past (labels_by labels passing x) other walk) same,
  λ region. go.looks_are region ∙ ap (λ x. looked_in region cutting past (labels_by labels passing x) other walk) same,
  ap (λ left. first_left (left_at passing.aim passing.point m) left) go.left_are
      ∙ ap (λ x. first_left (left_at passing.aim passing.point x)
      (left_in cutting past (labels_by labels passing x) other walk)) same,
)

same_turn : (table : ℕ) → IsDeciding table → (cutting : Cutting) (past : List Point) (labels : TurnLabels)
    (first second : List ℕ) (walk : Walk) → EachCleared (IsTableAnswer table) cutting past labels first walk →
    EachCleared (IsTableAnswer table) cutting past labels second walk → Same cutting past labels first second walk
unfolding cleared_in looked_in left_in EachCleared
same_turn table deciding cutting past labels first second (Looked seen value walk) by also =
    let go : Same cutting past labels first second walk =
    same_turn table deciding cutting past labels first second walk by also in
    record {
      labels_are = go.labels_are;
      looks_are = λ region. ap (first_look (look_at region labels seen)) (go.looks_are region);
      left_are = go.left_are;
    }
same_turn table deciding cutting past labels first second (Passed passing next) by also =
    let crossing = crossing_at cutting past passing in
    let m = left_mask cutting.skipped crossing labels (first_of first) passing in
    let n = left_mask cutting.skipped crossing labels (first_of second) passing in
    let later = answers_after passing.work first in
    let other = answers_after passing.work second in
    let same : m ≡ n =
    same_left table deciding cutting.skipped crossing labels passing (first_of first) (first_of second) by.0 also.0 in
    let go : Same cutting (passing.point ∷ past) (labels_by labels passing m) later other (next passing.value) =
    same_turn table deciding cutting (passing.point ∷ past) (labels_by labels passing m) later other
    (next passing.value) by.1
    (subst (λ x. EachCleared (IsTableAnswer table) cutting (passing.point ∷ past) (labels_by labels passing x) other
    (next passing.value)) (sym same) also.1) in
    let all =
    same_passed cutting (passing.point ∷ past) labels later other passing (next passing.value) m n same go in
    record { labels_are = all.0; looks_are = all.1; left_are = all.2 }
same_turn table deciding cutting past labels first second (Moved place shape source value walk) by also =
    let go : Same cutting past (put_label place (moved_label labels shape source) labels) first second walk =
    same_turn table deciding cutting past (put_label place (moved_label labels shape source) labels) first second walk
    by also in
    record { labels_are = go.labels_are; looks_are = go.looks_are; left_are = go.left_are }
same_turn table deciding cutting past labels first second (Saved walk) by also =
    let go : Same cutting past (save_labels labels) first second walk =
    same_turn table deciding cutting past (save_labels labels) first second walk by also in
    record { labels_are = go.labels_are; looks_are = go.looks_are; left_are = go.left_are }
same_turn table deciding cutting past labels first second (Restored registers walk replayed) by also =
    let go : Same cutting past (restore_labels registers labels) first second walk =
    same_turn table deciding cutting past (restore_labels registers labels) first second walk by also in
    record { labels_are = go.labels_are; looks_are = go.looks_are; left_are = go.left_are }
same_turn table deciding cutting past labels first second (Ended state) by also =
    record { labels_are = refl; looks_are = λ region. refl; left_are = refl }

-- ---- the next turn of a run

pub record AreSameTurns (hidden : Bool) (task : Task) (first second : List ℕ) (run : MaskedRun) : Type 0 where
  pub labels_are : labels_unless hidden task first run ≡ labels_unless hidden task second run
  pub looks_are : look_unless hidden task first run ≡ look_unless hidden task second run
  pub left_are : left_unless hidden task first run ≡ left_unless hidden task second run

pub turns_are_decided : (table : ℕ) → IsDeciding table → (hidden : Bool) (task : Task) (first second : List ℕ)
    (run : MaskedRun) → AnswersUnless hidden table task first run → AnswersUnless hidden table task second run →
    AreSameTurns hidden task first second run
turns_are_decided table deciding true task first second run by also =
    record { labels_are = refl; looks_are = refl; left_are = refl }
turns_are_decided table deciding false task first second run by also =
    let same = same_turn table deciding (cutting_at task run) run.place.past (at_start run.labels) first second
    (walk_at task run) by.by_table also.by_table in
    record {
      labels_are = same.labels_are;
      looks_are = same.looks_are (entered_number (kind_at task run));
      left_are = same.left_are;
    }

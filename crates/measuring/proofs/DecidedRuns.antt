-- The answers of a table decide a run: for lists of answers that are all by one of tables 1 to 3, labels, events and
-- refusals are the same.
use Rattle.std.proofs.Common.{◌≡◌, ℕ, List, [], ◌∷◌, ◌++◌, refl, sym, ap, ap₂, subst, ◌∙◌, arith}
use Rattle.std.specs.Prelude.{◌==◌, if◌then◌else◌}
use Rattle.enclosure_regions.specs.declared.region_parts.Region.{Region}
use Rattle.flow_graph.specs.declared.events.Event.{Event}
use Rattle.flow_graph.specs.declared.events.Event.TheVariants.{Pass}
use Rattle.region_machine.specs.Breaking.{Breaks}
use Rattle.region_machine.specs.Enclosures.{kind_of}
use Rattle.region_machine.specs.Runs.{real_turn}
use Rattle.rv32im_machine.specs.declared.language.Passing.{Passing}
use Rattle.rv32im_machine.specs.Folds.{real_end}
use Rattle.rv32im_machine.specs.Language.{Walk, Looked, Passed, Moved, Saved, Restored, Ended, first_of}
use Rattle.shadow_masks.specs.Pages.{label_of}
use Rattle.shadow_masks.specs.Writes.{LabelMap}
use Rattle.run_labels.specs.Answers.{HoldsOfAnswer, IsTableAnswer}
use Rattle.run_labels.specs.Traces.{traced, EachAnswer, labels_in, events_in, secret_look}
use Rattle.run_labels.specs.Flowing.{flow_events}
use Rattle.run_labels.specs.Looking.{look_fault}
use Rattle.run_labels.specs.Masks.{aimed_mask, answers_after, mask_of, masks_of, moved_label}
use Rattle.run_labels.specs.Runs.{LabelledRun, EachRunAnswer, broken_fault, enclosing, entered_number, next_run}
use Rattle.run_labels.specs.Runs.{next_walk, run_after, stopped_fault}
use Rattle.run_labels.specs.TurnLabels.{TurnLabels, aim_label, at_start, put_label, save_labels, restore_labels}
use Rattle.measuring.specs.Laws.{RunsAreDecided, RefusalsAreDecided}
use Rattle.std.specs.Option.{option_or}
use Rattle.transfer_rules.specs.Tables.{IsDeciding}
use Rattle.run_labels.proofs.TableAnswers.{same_work}

-- ---- one passing

same_mask : (table : ℕ) → IsDeciding table → (labels : TurnLabels) (passing : Passing) (first second : ℕ) →
    HoldsOfAnswer (IsTableAnswer table) passing.work (masks_of labels passing.sources) first →
    HoldsOfAnswer (IsTableAnswer table) passing.work (masks_of labels passing.sources) second →
    mask_of labels first passing ≡ mask_of labels second passing
same_mask table deciding labels passing first second by also =
    ap (aimed_mask passing.aim passing.point.slot)
    (same_work table deciding passing.work (masks_of labels passing.sources) first second by also)

-- the labels after a passing of this mask, and its events
abbrev labels_by : TurnLabels → Passing → ℕ → TurnLabels
labels_by labels passing mask = aim_label passing.aim (label_of mask passing.point) labels

abbrev events_by : TurnLabels → Passing → ℕ → List Event
events_by labels passing mask =
    Pass passing.point mask ∷ (if mask == 0 then [] else flow_events labels passing)

-- ---- one turn

record Same (labels : TurnLabels) (first second : List ℕ) (walk : Walk) : Type 0 where
  labels_are : labels_in labels first walk ≡ labels_in labels second walk
  events_are : events_in labels first walk ≡ events_in labels second walk
  looks_are : (region : ℕ) → secret_look region labels first walk ≡ secret_look region labels second walk

same_passed : (labels : TurnLabels) (first second later other : List ℕ) (passing : Passing) (walk : Walk) (m n : ℕ) →
    m ≡ n → Same (labels_by labels passing m) later other walk →
    (labels_in (labels_by labels passing m) later walk ≡ labels_in (labels_by labels passing n) other walk)
    × (events_by labels passing m ++ events_in (labels_by labels passing m) later walk
    ≡ events_by labels passing n ++ events_in (labels_by labels passing n) other walk)
    × ((region : ℕ) → secret_look region (labels_by labels passing m) later walk
    ≡ secret_look region (labels_by labels passing n) other walk)
same_passed labels first second later other passing walk m n same go = (
  go.labels_are ∙ ap (λ x. labels_in (labels_by labels passing x) other walk) same,
  ap (λ events. events_by labels passing m ++ events) go.events_are
      ∙ ap (λ x. events_by labels passing x ++ events_in (labels_by labels passing x) other walk) same,
  λ region. go.looks_are region ∙ ap (λ x. secret_look region (labels_by labels passing x) other walk) same,
)

same_turn : (table : ℕ) → IsDeciding table → (labels : TurnLabels) (first second : List ℕ) (walk : Walk) →
    EachAnswer (IsTableAnswer table) labels first walk → EachAnswer (IsTableAnswer table) labels second walk →
    Same labels first second walk
unfolding traced
same_turn table deciding labels first second (Looked seen value walk) by also =
    let go : Same labels first second walk = same_turn table deciding labels first second walk by also in
    record {
      labels_are = go.labels_are;
      events_are = go.events_are;
      looks_are = λ region. ap (option_or (look_fault region labels seen)) (go.looks_are region);
    }
same_turn table deciding labels first second (Passed passing next) by also =
    let m = mask_of labels (first_of first) passing in
    let n = mask_of labels (first_of second) passing in
    let later = answers_after passing.work first in
    let other = answers_after passing.work second in
    let same : m ≡ n = same_mask table deciding labels passing (first_of first) (first_of second) by.0 also.0 in
    let go : Same (labels_by labels passing m) later other (next passing.value) =
    same_turn table deciding (labels_by labels passing m) later other (next passing.value) by.1
    (subst (λ x. EachAnswer (IsTableAnswer table) (labels_by labels passing x) other (next passing.value)) (sym same)
    also.1) in
    let all = same_passed labels first second later other passing (next passing.value) m n same go in
    record { labels_are = all.0; events_are = all.1; looks_are = all.2 }
same_turn table deciding labels first second (Moved place shape source value walk) by also =
    let go : Same (put_label place (moved_label labels shape source) labels) first second walk =
    same_turn table deciding (put_label place (moved_label labels shape source) labels) first second walk by also in
    record { labels_are = go.labels_are; events_are = go.events_are; looks_are = go.looks_are }
same_turn table deciding labels first second (Saved walk) by also =
    let go : Same (save_labels labels) first second walk =
    same_turn table deciding (save_labels labels) first second walk by also in
    record { labels_are = go.labels_are; events_are = go.events_are; looks_are = go.looks_are }
same_turn table deciding labels first second (Restored registers walk replayed) by also =
    let go : Same (restore_labels registers labels) first second walk =
    same_turn table deciding (restore_labels registers labels) first second walk by also in
    record { labels_are = go.labels_are; events_are = go.events_are; looks_are = go.looks_are }
same_turn table deciding labels first second (Ended state) by also =
    record { labels_are = refl; events_are = refl; looks_are = λ region. refl }

-- ---- many turns

same_next : (table : ℕ) → IsDeciding table → (regions : List Region) (run : LabelledRun) (first second : List ℕ) →
    EachAnswer (IsTableAnswer table) (at_start run.labels) first (next_walk regions run) →
    EachAnswer (IsTableAnswer table) (at_start run.labels) second (next_walk regions run) →
    next_run regions first run ≡ next_run regions second run
same_next table deciding regions run first second by also =
    let same = same_turn table deciding (at_start run.labels) first second (next_walk regions run) by also in
    ap₂ (λ (labels : LabelMap) (events : List Event).
    record { place = real_turn (enclosing regions) run.place; labels = labels; events = run.events ++ events })
    same.labels_are same.events_are

pub runs_are_decided : RunsAreDecided
unfolding run_after EachRunAnswer
runs_are_decided table regions start [] [] deciding as_long by also = refl
runs_are_decided table regions start [] (b ∷ second) deciding as_long by also = absurd (omega (arith, as_long))
runs_are_decided table regions start (a ∷ first) [] deciding as_long by also = absurd (omega (arith, as_long))
runs_are_decided table regions start (a ∷ first) (b ∷ second) deciding as_long by also =
    let before : run_after regions first start ≡ run_after regions second start =
    runs_are_decided table regions start first second deciding (omega (arith, as_long)) by.0 also.0 in
    same_next table deciding regions (run_after regions first start) a b by.1
    (subst (λ run. EachAnswer (IsTableAnswer table) (at_start run.labels) b (next_walk regions run)) (sym before)
    also.1)
    ∙ ap (next_run regions b) before

pub refusals_are_decided : RefusalsAreDecided
refusals_are_decided table regions run first second deciding by also =
    let same = same_turn table deciding (at_start run.labels) first second (next_walk regions run) by also in
    ap (λ look. option_or look (option_or (broken_fault (Breaks regions run.place.state))
    (stopped_fault (real_end (next_walk regions run)).control.mode)))
    (same.looks_are (entered_number (kind_of regions run.place.state.control)))

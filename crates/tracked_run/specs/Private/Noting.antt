-- What one passing leaves.
use Rattle.std.specs.Prelude.{◌≡◌, ℕ, List}
use Rattle.flow_graph.specs.declared.events.Event.{Event}
use Rattle.rv32im_machine.specs.declared.language.Passing.{Passing}
use Rattle.run_labels.specs.Answers.{HoldsOfAnswer, IsSoundAnswer, IsTableAnswer}
use Rattle.run_labels.specs.Flowing.{passing_events}
use Rattle.run_labels.specs.Masks.{labels_after, mask_of, masks_of}
use Rattle.run_labels.specs.TurnLabels.{TurnLabels}
use Rattle.tracked_run.specs.Linking.{Appends}

-- a sound answer of the table
pub record IsAnswer (table : ℕ) (labels : TurnLabels) (passing : Passing) (answer : ℕ) : Type 0 where
  pub sound : HoldsOfAnswer IsSoundAnswer passing.work (masks_of labels passing.sources) answer
  pub by_table : HoldsOfAnswer (IsTableAnswer table) passing.work (masks_of labels passing.sources) answer

-- a mask is that of the passing by such an answer
pub record IsMask (table : ℕ) (labels : TurnLabels) (passing : Passing) (mask : ℕ) : Type 0 where
  pub answer : ℕ
  pub is_answer : IsAnswer table labels passing answer
  pub is_mask : mask ≡ mask_of labels answer passing

-- after a passing, by such an answer: the labels, and what the receiver of events stands for
pub record Notes (table : ℕ) (before : TurnLabels) (stood : List Event → Type 0) (passing : Passing)
    (after : TurnLabels) (stands : List Event → Type 0) : Type 0 where
  pub answer : ℕ
  pub is_answer : IsAnswer table before passing answer
  pub labels : after ≡ labels_after before answer passing
  pub events : Appends stood stands (passing_events before answer passing)

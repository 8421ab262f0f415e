-- What one passing leaves.
use Rattle.std.specs.Prelude.{◌≡◌, ℕ, Bool}
use Rattle.rv32im_machine.specs.declared.language.Passing.{Passing}
use Rattle.run_labels.specs.TurnLabels.{TurnLabels}
use Rattle.run_labels.specs.Answers.{HoldsOfAnswer, IsSoundAnswer, IsTableAnswer}
use Rattle.run_labels.specs.Masks.{masks_of}
use Rattle.masked_turns.specs.Clearing.{left_mask, labels_left}

-- after a passing at which these bits cross, by a sound answer of the table: the mask that is left, and the labels
pub record Clears (table : ℕ) (skipped : Bool) (crossing : ℕ) (before : TurnLabels) (passing : Passing)
    (after : TurnLabels) (mask : ℕ) : Type 0 where
  pub answer : ℕ
  pub sound : HoldsOfAnswer IsSoundAnswer passing.work (masks_of before passing.sources) answer
  pub by_table : HoldsOfAnswer (IsTableAnswer table) passing.work (masks_of before passing.sources) answer
  pub mask_is : mask ≡ left_mask skipped crossing before answer passing
  pub labels : after ≡ labels_left skipped crossing before answer passing

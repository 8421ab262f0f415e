-- What one passing leaves, by the mask that was found for it.
use Rattle.std.proofs.Common.{◌≡◌, ℕ, List, Result, Ok, Err, OnOk, subst}
use Rattle.flow_graph.specs.declared.events.Event.{Event}
use Rattle.rv32im_machine.specs.declared.language.Passing.{Passing}
use Rattle.run_labels.specs.Masks.{labels_after, mask_of}
use Rattle.run_labels.specs.TurnLabels.{TurnLabels}
use Rattle.tracked_run.specs.Linking.{Appends, masked_events}
use Rattle.tracked_run.specs.Private.Noting.{IsMask, Notes}

pub notes_of : {X : Type 0} (table : ℕ) (before : TurnLabels) (stood stands : List Event → Type 0) (passing : Passing)
    (after : TurnLabels) (mask : ℕ) (r : Result (Unit {0}) X) → IsMask table before passing mask →
    OnOk r ((answer : ℕ) → mask ≡ mask_of before answer passing → after ≡ labels_after before answer passing) →
    OnOk r (Appends stood stands (masked_events before mask passing)) →
    OnOk r (Notes table before stood passing after stands)
notes_of table before stood stands passing after mask (Ok done) m labels events = record {
  answer = m.answer;
  is_answer = m.is_answer;
  labels = labels m.answer m.is_mask;
  events = subst (λ x. Appends stood stands (masked_events before x passing)) m.is_mask events;
}
notes_of table before stood stands passing after mask (Err e) m labels events = tt

-- the same, where the labels are known whatever the answer
pub notes_given : {X : Type 0} (table : ℕ) (before : TurnLabels) (stood stands : List Event → Type 0) (passing : Passing)
    (after : TurnLabels) (mask : ℕ) (r : Result (Unit {0}) X) → IsMask table before passing mask →
    ((answer : ℕ) → mask ≡ mask_of before answer passing → after ≡ labels_after before answer passing) →
    OnOk r (Appends stood stands (masked_events before mask passing)) →
    OnOk r (Notes table before stood passing after stands)
notes_given {X = X} table before stood stands passing after mask (Ok done) m labels events =
    notes_of {X = X} table before stood stands passing after mask (Ok done) m labels events
notes_given table before stood stands passing after mask (Err e) m labels events = tt

-- What a turn of which labels are kept leaves.
use Rattle.std.specs.Prelude.{◌≡◌, ℕ, IsTrue, List, [], Option, Some, None, refl}
use Rattle.std.proofs.Common.{append-nil, subst, sym}
use Rattle.std.specs.Borrow.{GName}
use Rattle.flow_base.specs.declared.lists.NoMemory.{NoMemory}
use Rattle.flow_graph.specs.declared.events.Event.{Event}
use Rattle.rv32im_machine.specs.Folds.{real_end}
use Rattle.rv32im_machine.specs.Language.{Walk, Ended}
use Rattle.rv32im_machine.specs.Playing.{Played, Finished, Halted}
use Rattle.rv32im_machine.specs.State.{State}
use Rattle.shadow_masks.specs.Shades.{Shades}
use Rattle.run_labels.specs.declared.faults.MeasureFault.{MeasureFault}
use Rattle.run_labels.specs.Answers.{IsSoundAnswer, IsTableAnswer}
use Rattle.run_labels.specs.Traces.{traced, EachAnswer, labels_in, events_in, secret_look}
use Rattle.run_labels.specs.TurnLabels.{TurnLabels}
use Rattle.tracked_run.specs.Labels.{map_of}
use Rattle.tracked_run.specs.Linking.{Appends}
use Rattle.tracked_run.specs.Runs.{wants_memory}
use Rattle.std.specs.Option.{option_or}

-- what a turn leaves: the labels, the receiver of events, the first look at what may depend on the secret, and the names
-- of the references by which the shadow and the receiver are lent
pub record Left (E : Type 0) : Type 0 where
  pub shades : Shades
  pub events : E
  pub refused : Option MeasureFault
  pub shadow_lent : GName
  pub events_lent : GName

-- a walk whose labels are kept, by a book of this table, ends in this state and leaves this, where it began with these
-- labels and the former things
pub record EndsTracked {E : Type 0} (stands : E → List Event → Type 0) (table region : ℕ) (labels : TurnLabels)
    (before : Left E) (walk : Walk) (state : State) (after : Left E) : Type 0 where
  pub answers : List ℕ
  pub sound : EachAnswer IsSoundAnswer labels answers walk
  pub by_table : EachAnswer (IsTableAnswer table) labels answers walk
  pub ends : state ≡ real_end walk
  pub base : after.shades.base ≡ before.shades.base
  pub labelled : map_of after.shades ≡ labels_in labels answers walk
  pub refused : after.refused ≡ option_or before.refused (secret_look region labels answers walk)
  pub added : Appends (stands before.events) (stands after.events) (events_in labels answers walk)
  pub shadow_lent : after.shadow_lent ≡ before.shadow_lent
  pub events_lent : after.events_lent ≡ before.events_lent

-- a turn that is stopped for lack of memory wants memory
abbrev pub Tracks : {E : Type 0} → (E → List Event → Type 0) → ℕ → ℕ → TurnLabels → Left E → Walk →
    Played NoMemory (Left E) → Type 0
Tracks stands table region labels before walk (Finished state after) =
    EndsTracked stands table region labels before walk state after
Tracks stands table region labels before walk (Halted stop) = IsTrue (wants_memory walk)

none_more : (fault : Option MeasureFault) → fault ≡ option_or fault None
none_more None = refl
none_more (Some fault) = refl

-- at the end of a turn nothing more is added
pub tracks_Ended : {E : Type 0} (stands : E → List Event → Type 0) (table region : ℕ) (labels : TurnLabels)
    (before : Left E) (state : State) → map_of before.shades ≡ labels.map →
    Tracks stands table region labels before (Ended state) (Finished state before)
unfolding traced real_end
tracks_Ended stands table region labels before state e = record {
  answers = [];
  sound = tt;
  by_table = tt;
  ends = refl;
  base = refl;
  labelled = e;
  refused = none_more before.refused;
  added = λ events h. subst (stands before.events) (sym (append-nil events)) h;
  shadow_lent = refl;
  events_lent = refl;
}

-- a turn whose labels are kept ends as the real one
pub tracks_real : {E : Type 0} (stands : E → List Event → Type 0) (table region : ℕ) (labels : TurnLabels)
    (before : Left E) (walk : Walk) (state : State) (after : Left E) →
    Tracks stands table region labels before walk (Finished state after) → state ≡ real_end walk
tracks_real stands table region labels before walk state after h = h.ends

-- One node of a walk whose labels are kept.
use Rattle.std.proofs.Common.{◌≡◌, ◌||◌, ℕ, Bool, true, false, IsTrue, IsErr, Result, Ok, Err, List, ◌∷◌, Option, Some, None, refl, ap, ◌∙◌, subst}
use Rattle.flow_graph.specs.declared.events.Event.{Event}
use Rattle.flow_base.specs.declared.lists.NoMemory.{NoMemory}
use Rattle.flow_base.specs.declared.points.Point.{Point}
use Rattle.rv32im_machine.specs.declared.language.Aim.{Aim}
use Rattle.rv32im_machine.specs.declared.language.Passing.{Passing}
use Rattle.rv32im_machine.specs.declared.language.Place.{Place}
use Rattle.rv32im_machine.specs.declared.language.Seen.{Seen}
use Rattle.rv32im_machine.specs.declared.language.Shape.{Shape}
use Rattle.rv32im_machine.specs.declared.language.Source.{Source}
use Rattle.rv32im_machine.specs.declared.language.Sources.{Sources}
use Rattle.rv32im_machine.specs.declared.language.Work.{Work}
use Rattle.rv32im_machine.specs.declared.language.Work.TheVariants.{Shaped, Computed}
use Rattle.rv32im_machine.specs.Folds.{real_end}
use Rattle.rv32im_machine.specs.Language.{Walk, Looked, Passed, Moved, Saved, Restored}
use Rattle.rv32im_machine.specs.Playing.{Played, Finished, Halted, Goes}
use Rattle.shadow_masks.specs.Shades.{Shades}
use Rattle.run_labels.specs.declared.faults.MeasureFault.{MeasureFault}
use Rattle.run_labels.specs.Answers.{HoldsOfAnswer, IsSoundAnswer, IsTableAnswer}
use Rattle.run_labels.specs.Traces.{traced, secret_look}
use Rattle.run_labels.specs.Flowing.{passing_events}
use Rattle.run_labels.specs.Looking.{look_fault}
use Rattle.run_labels.specs.Masks.{labels_after, masks_of, moved_label}
use Rattle.run_labels.specs.TurnLabels.{TurnLabels, put_label, save_labels, restore_labels}
use Rattle.tracked_run.specs.Linking.{Appends}
use Rattle.tracked_run.specs.Labels.{is_byte}
use Rattle.tracked_run.specs.Runs.{wants_memory}
use Rattle.tracked_run.specs.Private.Tracking.{Left, Tracks}
use Rattle.tracked_run.proofs.Appending.{appends_more}
use Rattle.std.specs.Option.{option_or}

first_assoc : (first second third : Option MeasureFault) →
    option_or (option_or first second) third ≡ option_or first (option_or second third)
first_assoc None second third = refl
first_assoc (Some fault) second third = refl

-- ---- out of memory

pub goes_err : {A Stop Tape : Type 0} (result : Result A Stop) (after : A → Played Stop Tape → Type 0)
    (before : Played Stop Tape → Type 0) → IsErr result → ((stop : Stop) → before (Halted stop)) →
    Goes result after before
goes_err (Ok answer) after before e halted = absurd (cc)
goes_err (Err stop) after before e halted = halted stop

wants_later : (first later : Bool) → IsTrue later → IsTrue (first || later)
wants_later true later wants = refl
wants_later false later wants = wants

-- a turn that moves a value to a byte wants memory
pub wants_moved : (place : Place) (shape : Shape) (source : Source) (value : ℕ) (walk : Walk) → IsTrue (is_byte place) →
    IsTrue (wants_memory (Moved place shape source value walk))
unfolding wants_memory
wants_moved place shape source value walk byte = ap (λ first. first || wants_memory walk) byte

-- a turn with an event wants memory
pub wants_passed : (passing : Passing) (go : ℕ → Walk) → IsTrue (wants_memory (Passed passing go))
unfolding wants_memory
wants_passed passing go = refl

-- ---- nodes

pub tracks_looked : {E : Type 0} (stands : E → List Event → Type 0) (table region : ℕ) (labels : TurnLabels)
    (before : Left E) (refused : Option MeasureFault) (seen : Seen) (value : ℕ) (walk : Walk)
    (out : Played NoMemory (Left E)) → refused ≡ option_or before.refused (look_fault region labels seen) →
    Tracks stands table region labels (record before { refused = refused }) walk out →
    Tracks stands table region labels before (Looked seen value walk) out
unfolding traced real_end wants_memory
tracks_looked stands table region labels before refused seen value walk (Finished state after) e h = record {
  answers = h.answers;
  sound = h.sound;
  by_table = h.by_table;
  ends = h.ends;
  base = h.base;
  labelled = h.labelled;
  refused = h.refused ∙ (ap (λ r. option_or r (secret_look region labels h.answers walk)) e
      ∙ first_assoc before.refused (look_fault region labels seen) (secret_look region labels h.answers walk));
  added = h.added;
  shadow_lent = h.shadow_lent;
  events_lent = h.events_lent;
}
tracks_looked stands table region labels before refused seen value walk (Halted stop) e h = h

pub tracks_moved : {E : Type 0} (stands : E → List Event → Type 0) (table region : ℕ) (old new : TurnLabels)
    (before : Left E) (shades : Shades) (place : Place) (shape : Shape) (source : Source) (value : ℕ) (walk : Walk)
    (out : Played NoMemory (Left E)) → shades.base ≡ before.shades.base →
    new ≡ put_label place (moved_label old shape source) old →
    Tracks stands table region new (record before { shades = shades }) walk out →
    Tracks stands table region old before (Moved place shape source value walk) out
unfolding traced real_end wants_memory
tracks_moved stands table region old new before shades place shape source value walk (Finished state after) base e k =
    let h = subst (λ l. Tracks stands table region l (record before { shades = shades }) walk (Finished state after)) e k in
    record {
      answers = h.answers;
      sound = h.sound;
      by_table = h.by_table;
      ends = h.ends;
      base = h.base ∙ base;
      labelled = h.labelled;
      refused = h.refused;
      added = h.added;
      shadow_lent = h.shadow_lent;
      events_lent = h.events_lent;
    }
tracks_moved stands table region old new before shades place shape source value walk (Halted stop) base e k =
    wants_later (is_byte place) (wants_memory walk) k

pub tracks_saved : {E : Type 0} (stands : E → List Event → Type 0) (table region : ℕ) (old new : TurnLabels)
    (before : Left E) (shades : Shades) (walk : Walk)
    (out : Played NoMemory (Left E)) → shades.base ≡ before.shades.base → new ≡ save_labels old →
    Tracks stands table region new (record before { shades = shades }) walk out →
    Tracks stands table region old before (Saved walk) out
unfolding traced real_end wants_memory
tracks_saved stands table region old new before shades walk (Finished state after) base e k =
    let h = subst (λ l. Tracks stands table region l (record before { shades = shades }) walk (Finished state after)) e k in
    record {
      answers = h.answers;
      sound = h.sound;
      by_table = h.by_table;
      ends = h.ends;
      base = h.base ∙ base;
      labelled = h.labelled;
      refused = h.refused;
      added = h.added;
      shadow_lent = h.shadow_lent;
      events_lent = h.events_lent;
    }
tracks_saved stands table region old new before shades walk (Halted stop) base e k = k

pub tracks_restored : {E : Type 0} (stands : E → List Event → Type 0) (table region : ℕ) (old new : TurnLabels)
    (before : Left E) (shades : Shades) (registers : List ℕ) (walk back : Walk)
    (out : Played NoMemory (Left E)) → shades.base ≡ before.shades.base → new ≡ restore_labels registers old →
    Tracks stands table region new (record before { shades = shades }) walk out →
    Tracks stands table region old before (Restored registers walk back) out
unfolding traced real_end wants_memory
tracks_restored stands table region old new before shades registers walk back (Finished state after) base e k =
    let h = subst (λ l. Tracks stands table region l (record before { shades = shades }) walk (Finished state after)) e k in
    record {
      answers = h.answers;
      sound = h.sound;
      by_table = h.by_table;
      ends = h.ends;
      base = h.base ∙ base;
      labelled = h.labelled;
      refused = h.refused;
      added = h.added;
      shadow_lent = h.shadow_lent;
      events_lent = h.events_lent;
    }
tracks_restored stands table region old new before shades registers walk back (Halted stop) base e k = k

-- what is shaped takes no answer, what is computed takes this one
passed_work : {E : Type 0} (stands : E → List Event → Type 0) (table region : ℕ) (labels : TurnLabels)
    (before : Left E) (shades : Shades) (events : E) (answer : ℕ) (point : Point) (aim : Aim) (work : Work)
    (sources : Sources) (value : ℕ) (go : ℕ → Walk) (out : Played NoMemory (Left E)) →
    shades.base ≡ before.shades.base →
    HoldsOfAnswer IsSoundAnswer work (masks_of labels sources) answer →
    HoldsOfAnswer (IsTableAnswer table) work (masks_of labels sources) answer →
    Appends (stands before.events) (stands events) (passing_events labels answer
    (record { point = point; aim = aim; work = work; sources = sources; value = value })) →
    Tracks stands table region (labels_after labels answer
    (record { point = point; aim = aim; work = work; sources = sources; value = value }))
    (record before { shades = shades; events = events }) (go value) out →
    Tracks stands table region labels before
    (Passed (record { point = point; aim = aim; work = work; sources = sources; value = value }) go) out
unfolding traced real_end wants_memory
passed_work stands table region labels before shades events answer point aim (Shaped shape) sources value go
    (Finished state after) base sound by_table added h = record {
      answers = h.answers;
      sound = (tt, h.sound);
      by_table = (tt, h.by_table);
      ends = h.ends;
      base = h.base ∙ base;
      labelled = h.labelled;
      refused = h.refused;
      added = appends_more (stands before.events) (stands events) (stands after.events) _ _ added h.added;
      shadow_lent = h.shadow_lent;
      events_lent = h.events_lent;
    }
passed_work stands table region labels before shades events answer point aim (Computed operation first second) sources
    value go (Finished state after) base sound by_table added h = record {
      answers = answer ∷ h.answers;
      sound = (sound, h.sound);
      by_table = (by_table, h.by_table);
      ends = h.ends;
      base = h.base ∙ base;
      labelled = h.labelled;
      refused = h.refused;
      added = appends_more (stands before.events) (stands events) (stands after.events) _ _ added h.added;
      shadow_lent = h.shadow_lent;
      events_lent = h.events_lent;
    }
passed_work stands table region labels before shades events answer point aim work sources value go (Halted stop)
    base sound by_table added h = refl

pub tracks_passed : {E : Type 0} (stands : E → List Event → Type 0) (table region : ℕ) (old new : TurnLabels)
    (before : Left E) (shades : Shades) (events : E) (answer : ℕ) (passing : Passing) (go : ℕ → Walk)
    (out : Played NoMemory (Left E)) → shades.base ≡ before.shades.base →
    HoldsOfAnswer IsSoundAnswer passing.work (masks_of old passing.sources) answer →
    HoldsOfAnswer (IsTableAnswer table) passing.work (masks_of old passing.sources) answer →
    new ≡ labels_after old answer passing →
    Appends (stands before.events) (stands events) (passing_events old answer passing) →
    Tracks stands table region new (record before { shades = shades; events = events }) (go passing.value) out →
    Tracks stands table region old before (Passed passing go) out
tracks_passed stands table region old new before shades events answer passing go out base sound by_table e added h =
    passed_work stands table region old before shades events answer passing.point passing.aim passing.work
    passing.sources passing.value go out base sound by_table added
    (subst (λ l. Tracks stands table region l (record before { shades = shades; events = events }) (go passing.value) out)
    e h)

-- A run that is followed, one turn more.
use Rattle.std.proofs.Common.{◌≡◌, ℕ, ◌+◌, ◌<◌, Bool, true, false, List, [], ◌∷◌, length, refl, sym, ap, ◌∙◌, arith}
use Rattle.std.proofs.Common.{Option, Some, None, Ok, subst, ◌==◌, ◌&&◌, if◌then◌else◌}
use Rattle.std.proofs.lemmas.Bool.{false≢true}
use Rattle.enclosure_regions.specs.declared.region_parts.Region.{Region}
use Rattle.enclosure_regions.specs.declared.break_kinds.Break.{Break}
use Rattle.flow_graph.specs.declared.events.Event.{Event}
use Rattle.region_machine.specs.Breaking.{Breaks}
use Rattle.region_machine.specs.Enclosures.{kind_of}
use Rattle.region_machine.specs.Runs.{has_exited}
use Rattle.rv32im_machine.specs.Folds.{real_end}
use Rattle.rv32im_machine.specs.declared.stepping.Stepped.{Stepped}
use Rattle.rv32im_machine.specs.declared.stepping.Stepped.TheVariants as mode
use Rattle.rv32im_machine.specs.declared.language.Seen.{Seen}
use Rattle.rv32im_machine.specs.declared.language.Seen.TheVariants.{Word, Base}
use Rattle.rv32im_machine.specs.Language.{Walk, Looked, Passed, Moved, Saved, Restored, Ended, first_of}
use Rattle.rv32im_machine.specs.State.{State}
use Rattle.shadow_masks.specs.Shades.{Shades}
use Rattle.run_labels.specs.Looking.{look_fault}
use Rattle.run_labels.specs.Traces.{traced, secret_look}
use Rattle.run_labels.specs.Masks.{byte_mask, answers_after, labels_after, moved_label}
use Rattle.run_labels.specs.TurnLabels.{TurnLabels, at_start, put_label, save_labels, restore_labels}
use Rattle.run_labels.specs.Runs.{LabelledRun, entered_number, next_walk, run_after, turn_fault, broken_fault}
use Rattle.run_labels.specs.Runs.{stopped_fault, EachRunAnswer, IsUnrefused}
use Rattle.run_labels.specs.declared.faults.MeasureFault.{MeasureFault}
use Rattle.run_labels.specs.declared.faults.MeasureFault.TheVariants.{TurnLimit, Guest, Region as RegionFault}
use Rattle.run_labels.specs.declared.faults.MeasureFault.TheVariants.{SecretCode, BaseSecret, GraphLimit, Memory}
use Rattle.tracked_run.specs.Runs.{Stands, AreAnswers, MakesTurn, RefusesTurn, Turns}
use Rattle.tracked_run.specs.declared.outcomes.TrackedTurn.{TrackedTurn}
use Rattle.measuring.specs.declared.following.RunEnd.TheVariants.{Refused}
use Rattle.measuring.specs.declared.recordings.Recording.{Recording}
use Rattle.measuring.specs.Recordings.{Records}
use Rattle.measuring.specs.RunCauses.{IsUnrefusedRun, GoesOn, IsRefused}
use Rattle.measuring.specs.Following.{EndsAs, HasEnded, StandsAfter}
use Rattle.std.specs.Option.{option_or}

-- no turns are a run
pub no_turns : (table : ℕ) (regions : List Region) (start : LabelledRun) → IsUnrefusedRun table regions start [] 0
unfolding EachRunAnswer IsUnrefused
no_turns table regions start = record { sound = tt; by_table = tt; unrefused = tt; counted = refl }

pub starts : (table : ℕ) (regions : List Region) (start : LabelledRun) (machine : State) (shadow : Shades)
    (recording : Recording) → Stands machine shadow start → has_exited machine.control.mode ≡ false →
    Records recording start.events → StandsAfter table regions start 0 machine shadow recording
unfolding run_after
starts table regions start machine shadow recording stands running records = record {
  answers = [];
  is_run = no_turns table regions start;
  stands = stands;
  running = running;
  records = records;
}

-- a turn that is made makes a run longer
longer : (table : ℕ) (regions : List Region) (start : LabelledRun) (answers : List (List ℕ)) (turns : ℕ) (last : List
    ℕ) → IsUnrefusedRun table regions start answers turns → AreAnswers table regions (run_after regions answers start) last →
    turn_fault regions last (run_after regions answers start) ≡ None →
    IsUnrefusedRun table regions start (last ∷ answers) (turns + 1)
unfolding EachRunAnswer IsUnrefused
longer table regions start answers turns last is_run are unrefused = record {
  sound = (is_run.sound, are.sound);
  by_table = (is_run.by_table, are.by_table);
  unrefused = (is_run.unrefused, unrefused);
  counted = let counted : length answers ≡ turns = is_run.counted in omega (arith, counted);
}

pub ran : (table : ℕ) (regions : List Region) (start : LabelledRun) (turns : ℕ) (before after : State) (shadow left :
    Shades) (recording recorded : Recording) → (follows : StandsAfter table regions start turns before shadow recording) →
    MakesTurn table regions (run_after regions follows.answers start) (Records recording) (Records recorded) after left
    mode.Ran → StandsAfter table regions start (turns + 1) after left recorded
unfolding run_after
ran table regions start turns before after shadow left recording recorded follows makes = record {
  answers = makes.answers ∷ follows.answers;
  is_run = longer table regions start follows.answers turns makes.answers follows.is_run makes.are_answers
      makes.unrefused;
  stands = makes.next;
  running = ap has_exited makes.in_mode;
  records = makes.added (run_after regions follows.answers start).events follows.records;
}

-- a run that is followed and has not exited
pub goes_on : (table : ℕ) (regions : List Region) (start : LabelledRun) (turns : ℕ) (machine : State) (shadow : Shades)
    (recording : Recording) → StandsAfter table regions start turns machine shadow recording → GoesOn table regions start
    turns
goes_on table regions start turns machine shadow recording follows = record {
  answers = follows.answers;
  is_run = follows.is_run;
  running = ap (λ state. has_exited state.control.mode) (sym follows.stands.state) ∙ follows.running;
}

-- ---- the exit

pub exits : (table : ℕ) (regions : List Region) (start : LabelledRun) (limit turns : ℕ) (before after : State) (shadow
    left : Shades) (recording recorded : Recording) (output : List ℕ) (status : ℕ) → turns < limit →
    (follows : StandsAfter table regions start turns before shadow recording) →
    MakesTurn table regions (run_after regions follows.answers start) (Records recording) (Records recorded) after left
    (mode.Exited status) → output ≡ after.control.output →
    HasEnded table regions start limit (record {
      turns = turns + 1;
      output = record { bytes = output; status = status };
      recording = recorded;
    })
unfolding run_after
exits table regions start limit turns before after shadow left recording recorded output status within follows makes
    written = record {
      exits = record {
        earlier = follows.answers;
        last = makes.answers;
        is_run = longer table regions start follows.answers turns makes.answers follows.is_run makes.are_answers
            makes.unrefused;
        within = omega (arith, within);
        running = ap (λ state. has_exited state.control.mode) (sym follows.stands.state) ∙ follows.running;
        exited = ap (λ state. state.control.mode) (sym makes.next.state) ∙ makes.in_mode;
        written = ap (λ state. state.control.output) (sym makes.next.state) ∙ sym written;
      };
      records = makes.added (run_after regions follows.answers start).events follows.records;
    }

-- ---- a refusal

-- a fault of a turn
abbrev is_of_turn : Option MeasureFault → Bool
is_of_turn None = true
is_of_turn (Some (Guest fault)) = true
is_of_turn (Some (RegionFault broken)) = true
is_of_turn (Some (SecretCode pc)) = true
is_of_turn (Some (BaseSecret region register)) = true
is_of_turn (Some (TurnLimit limit)) = false
is_of_turn (Some GraphLimit) = false
is_of_turn (Some Memory) = false

first_of_turn : (first later : Option MeasureFault) → is_of_turn first ≡ true → is_of_turn later ≡ true →
    is_of_turn (option_or first later) ≡ true
first_of_turn None later a b = b
first_of_turn (Some fault) later a b = a

look_of_turn : (region : ℕ) (labels : TurnLabels) (seen : Seen) → is_of_turn (look_fault region labels seen) ≡ true
look_of_turn region labels (Word address) =
    either ((byte_mask labels address == 0) && ((byte_mask labels (address + 1) == 0)
    && ((byte_mask labels (address + 2) == 0) && (byte_mask labels (address + 3) == 0))))
  where
    either : (b : Bool) → is_of_turn (if b then None else Some (SecretCode address)) ≡ true
    either true = refl
    either false = refl
look_of_turn region labels (Base register) = either ((labels.map.registers register).mask == 0)
  where
    either : (b : Bool) → is_of_turn (if b then None else Some (BaseSecret region register)) ≡ true
    either true = refl
    either false = refl

looks_of_turn : (region : ℕ) (labels : TurnLabels) (answers : List ℕ) (walk : Walk) →
    is_of_turn (secret_look region labels answers walk) ≡ true
unfolding traced
looks_of_turn region labels answers (Looked seen value walk) =
    first_of_turn (look_fault region labels seen) (secret_look region labels answers walk)
    (look_of_turn region labels seen) (looks_of_turn region labels answers walk)
looks_of_turn region labels answers (Passed passing go) =
    looks_of_turn region (labels_after labels (first_of answers) passing) (answers_after passing.work answers)
    (go passing.value)
looks_of_turn region labels answers (Moved place shape source value walk) =
    looks_of_turn region (put_label place (moved_label labels shape source) labels) answers walk
looks_of_turn region labels answers (Saved walk) = looks_of_turn region (save_labels labels) answers walk
looks_of_turn region labels answers (Restored registers walk replayed) =
    looks_of_turn region (restore_labels registers labels) answers walk
looks_of_turn region labels answers (Ended state) = refl

broken_of_turn : (broken : Option Break) → is_of_turn (broken_fault broken) ≡ true
broken_of_turn None = refl
broken_of_turn (Some broken) = refl

stopped_of_turn : (stepped : Stepped) → is_of_turn (stopped_fault stepped) ≡ true
stopped_of_turn mode.Ran = refl
stopped_of_turn (mode.Exited status) = refl
stopped_of_turn (mode.Stopped fault) = refl

faults_of_turn : (regions : List Region) (answers : List ℕ) (run : LabelledRun) →
    is_of_turn (turn_fault regions answers run) ≡ true
faults_of_turn regions answers run =
    first_of_turn (secret_look (entered_number (kind_of regions run.place.state.control)) (at_start run.labels) answers
    (next_walk regions run)) (option_or (broken_fault (Breaks regions run.place.state))
    (stopped_fault (real_end (next_walk regions run)).control.mode))
    (looks_of_turn (entered_number (kind_of regions run.place.state.control)) (at_start run.labels) answers
    (next_walk regions run))
    (first_of_turn (broken_fault (Breaks regions run.place.state)) (stopped_fault (real_end (next_walk regions
    run)).control.mode) (broken_of_turn (Breaks regions run.place.state)) (stopped_of_turn (real_end (next_walk regions
    run)).control.mode))

cause_of : (table : ℕ) (regions : List Region) (start : LabelledRun) (limit : ℕ) (fault : MeasureFault) →
    is_of_turn (Some fault) ≡ true → IsRefused table regions start limit fault →
    EndsAs table regions start limit (Refused fault)
cause_of table regions start limit (Guest fault) of refused = (refl, refused)
cause_of table regions start limit (RegionFault broken) of refused = (refl, refused)
cause_of table regions start limit (SecretCode pc) of refused = (refl, refused)
cause_of table regions start limit (BaseSecret region register) of refused = (refl, refused)
cause_of table regions start limit (TurnLimit turns) of refused = absurd (false≢true of)
cause_of table regions start limit GraphLimit of refused = absurd (false≢true of)
cause_of table regions start limit Memory of refused = absurd (false≢true of)

pub is_refused : (table : ℕ) (regions : List Region) (start : LabelledRun) (limit turns : ℕ) (before : State)
    (shadow : Shades) (recording : Recording) (stands : List Event → Type 0) (after : State) (left : Shades)
    (fault : MeasureFault) → turns < limit →
    (follows : StandsAfter table regions start turns before shadow recording) →
    RefusesTurn table regions (run_after regions follows.answers start) (Records recording) stands after left fault →
    EndsAs table regions start limit (Refused fault)
unfolding goes_on
is_refused table regions start limit turns before shadow recording stands after left fault within follows refuses =
    cause_of table regions start limit fault
    (ap is_of_turn (sym refuses.refused) ∙ faults_of_turn regions refuses.answers (run_after regions follows.answers
    start))
    (record {
      turns = turns;
      before = goes_on table regions start turns before shadow recording follows;
      within = within;
      answers = refuses.answers;
      are_answers = refuses.are_answers;
      refused = refuses.refused;
    })

-- ---- what a turn answers, with the table and the regions by other names

pub turn_is : (table named : ℕ) (regions called : List Region) (start : LabelledRun) (turns : ℕ) (before after : State)
    (shadow left : Shades) (recording recorded : Recording) (answer is : TrackedTurn) → named ≡ table → called ≡
    regions → (follows : StandsAfter table regions start turns before shadow recording) →
    ((run : LabelledRun) → Stands before shadow run →
    Turns named called run (Records recording) (Records recorded) after left (Ok answer)) → answer ≡ is →
    Turns table regions (run_after regions follows.answers start) (Records recording) (Records recorded) after left
    (Ok is)
turn_is table named regions called start turns before after shadow left recording recorded answer is e f follows made
    same =
    let run = run_after regions follows.answers start in
    subst (λ a. Turns table regions run (Records recording) (Records recorded) after left (Ok a)) same
    (subst (λ r. Turns table r run (Records recording) (Records recorded) after left (Ok answer)) f
    (subst (λ t. Turns t called run (Records recording) (Records recorded) after left (Ok answer)) e
    (made run follows.stands)))

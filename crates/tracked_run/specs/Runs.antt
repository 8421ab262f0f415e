-- What a measured run stands for, and what its turns do.
use Rattle.std.specs.Prelude.{◌≡◌, ◌||◌, ℕ, Bool, true, false, IsTrue, List, Some, None, Result, Ok, Err}
use Rattle.flow_base.specs.declared.lists.NoMemory.{NoMemory}
use Rattle.enclosure_regions.specs.declared.region_parts.Region.{Region}
use Rattle.flow_graph.specs.declared.events.Event.{Event}
use Rattle.rv32im_machine.specs.declared.stepping.Stepped.{Stepped}
use Rattle.rv32im_machine.specs.declared.stepping.Stepped.TheVariants as mode
use Rattle.rv32im_machine.specs.Language.{Walk, Looked, Passed, Moved, Saved, Restored, Ended}
use Rattle.rv32im_machine.specs.State.{State}
use Rattle.shadow_masks.specs.Shades.{Shades}
use Rattle.shadow_masks.specs.Writes.{ReadsAs}
use Rattle.run_labels.specs.declared.faults.MeasureFault.{MeasureFault}
use Rattle.run_labels.specs.Answers.{IsSoundAnswer, IsTableAnswer}
use Rattle.run_labels.specs.Traces.{EachAnswer}
use Rattle.run_labels.specs.Runs.{LabelledRun, next_walk, next_run, turn_events, turn_fault}
use Rattle.run_labels.specs.TurnLabels.{at_start}
use Rattle.tracked_run.specs.declared.outcomes.TrackedTurn.{TrackedTurn}
use Rattle.tracked_run.specs.declared.outcomes.TrackedTurn.TheVariants.{Ran, Exited, Refused}
use Rattle.tracked_run.specs.Labels.{is_byte}
use Rattle.tracked_run.specs.Linking.{Appends}

-- a machine and a shadow stand where a run does that has broken no region
pub record Stands (machine : State) (shadow : Shades) (run : LabelledRun) : Type 0 where
  pub state : machine ≡ run.place.state
  pub unbroken : run.place.broken ≡ None
  pub labels : ReadsAs run.labels shadow

-- the rules answered so in the next turn of a run: each answer is sound and one of the table
pub record AreAnswers (table : ℕ) (regions : List Region) (run : LabelledRun) (answers : List ℕ) : Type 0 where
  pub sound : EachAnswer IsSoundAnswer (at_start run.labels) answers (next_walk regions run)
  pub by_table : EachAnswer (IsTableAnswer table) (at_start run.labels) answers (next_walk regions run)

-- the turn is made by such answers and not refused, machine and shadow stand where it has come to, the guest is in this
-- mode, and the events of the turn are added
pub record MakesTurn (table : ℕ) (regions : List Region) (run : LabelledRun) (stood stands : List Event → Type 0)
    (machine : State) (shadow : Shades) (mode : Stepped) : Type 0 where
  pub answers : List ℕ
  pub are_answers : AreAnswers table regions run answers
  pub unrefused : turn_fault regions answers run ≡ None
  pub next : Stands machine shadow (next_run regions answers run)
  pub in_mode : machine.control.mode ≡ mode
  pub added : Appends stood stands (turn_events regions answers run)

-- the turn is refused by such answers; it is played to its end, machine and labels stand where it has come to, and its
-- events are added
pub record RefusesTurn (table : ℕ) (regions : List Region) (run : LabelledRun) (stood stands : List Event → Type 0)
    (machine : State) (shadow : Shades) (fault : MeasureFault) : Type 0 where
  pub answers : List ℕ
  pub are_answers : AreAnswers table regions run answers
  pub refused : turn_fault regions answers run ≡ Some fault
  pub state : machine ≡ (next_run regions answers run).place.state
  pub labels : ReadsAs (next_run regions answers run).labels shadow
  pub added : Appends stood stands (turn_events regions answers run)

-- whether a turn has an event or moves a value to a byte: memory is wanted for these alone
unfoldable pub wants_memory : Walk → Bool
wants_memory (Looked seen value walk) = wants_memory walk
wants_memory (Passed passing go) = true
wants_memory (Moved place shape source value walk) = is_byte place || wants_memory walk
wants_memory (Saved walk) = wants_memory walk
wants_memory (Restored registers walk replayed) = wants_memory walk
wants_memory (Ended state) = false

-- what a turn answers is so; out of memory the turn wants memory
abbrev pub Turns : ℕ → List Region → LabelledRun → (List Event → Type 0) → (List Event → Type 0) → State → Shades →
    Result TrackedTurn NoMemory → Type 0
Turns table regions run stood stands machine shadow (Ok Ran) =
    MakesTurn table regions run stood stands machine shadow mode.Ran
Turns table regions run stood stands machine shadow (Ok (Exited status)) =
    MakesTurn table regions run stood stands machine shadow (mode.Exited status)
Turns table regions run stood stands machine shadow (Ok (Refused fault)) =
    RefusesTurn table regions run stood stands machine shadow fault
Turns table regions run stood stands machine shadow (Err none) = IsTrue (wants_memory (next_walk regions run))

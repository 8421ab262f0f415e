-- A real run with the masks of its registers and bytes, turn by turn: which bits may differ in another run that crosses
-- with the same bits at a cut.
use Rattle.std.specs.Prelude.{ℕ, Bool, true, false, List, [], ◌∷◌, Some, None}
use Rattle.rv32im_machine.specs.Language.{Walk}
use Rattle.region_machine.specs.Enclosures.{Enclosures, Kind, Enters, Leaves, Steps, is_skipped, kind_of}
use Rattle.region_machine.specs.Guests.{guest_walk}
use Rattle.region_machine.specs.Runs.{Place, real_turn}
use Rattle.shadow_masks.specs.Writes.{LabelMap, default_map}
use Rattle.run_labels.specs.TurnLabels.{at_start}
use Rattle.masked_turns.specs.Answers.{AreWalkAnswers}
use Rattle.masked_turns.specs.Clearing.{Cutting, cleared_in}
use Rattle.lockstep_replay.specs.Tasks.{Task, real_start}

-- where a run stands, and the masks of its registers and bytes
pub record MaskedRun : Type 0 where
  pub place : Place
  pub labels : LabelMap

-- at the start no bit may differ
abbrev pub cleared_start : Place → MaskedRun
cleared_start place = record { place = place; labels = default_map }

-- ---- one turn

abbrev pub kind_at : Task → MaskedRun → Kind
kind_at task run = kind_of task.enclosures.regions run.place.state.control

abbrev pub walk_at : Task → MaskedRun → Walk
walk_at task run = guest_walk task.enclosures.regions run.place.state

-- a turn inside a skipped region changes no mask: at the leave its outputs get all their bits
abbrev pub is_hidden : Enclosures → Kind → Bool
is_hidden enclosures (Enters region) = false
is_hidden enclosures (Leaves region) = false
is_hidden enclosures (Steps None) = false
is_hidden enclosures (Steps (Some region)) = is_skipped enclosures region

abbrev pub leaves_skipped : Enclosures → Kind → Bool
leaves_skipped enclosures (Enters region) = false
leaves_skipped enclosures (Leaves region) = is_skipped enclosures region
leaves_skipped enclosures (Steps region) = false

abbrev pub cutting_at : Task → MaskedRun → Cutting
cutting_at task run = record { masks = task.masks; skipped = leaves_skipped task.enclosures (kind_at task run) }

-- the masks after a turn, where the rules answer so
abbrev pub labels_unless : Bool → Task → List ℕ → MaskedRun → LabelMap
labels_unless true task answers run = run.labels
labels_unless false task answers run =
    cleared_in (cutting_at task run) run.place.past (at_start run.labels) answers (walk_at task run)

abbrev pub next_masked : Task → List ℕ → MaskedRun → MaskedRun
next_masked task answers run = record {
  place = real_turn task.enclosures run.place;
  labels = labels_unless (is_hidden task.enclosures (kind_at task run)) task answers run;
}

-- the rules answered so in the next turn: each answer is sound and one of the table; in a hidden turn none is asked
abbrev pub AnswersUnless : Bool → ℕ → Task → List ℕ → MaskedRun → Type 0
AnswersUnless true table task answers run = Unit {0}
AnswersUnless false table task answers run =
    AreWalkAnswers table (cutting_at task run) run.place.past (at_start run.labels) answers (walk_at task run)

-- ---- many turns

-- Cleared: the run on a secret after the turns for which the rules gave these answers, the latest turn first
unfoldable pub Cleared : Task → List ℕ → List (List ℕ) → MaskedRun
Cleared task secret [] = cleared_start (real_start task secret)
Cleared task secret (answers ∷ earlier) = next_masked task answers (Cleared task secret earlier)

-- the rules answered so turn by turn
unfoldable pub AreRunAnswers : ℕ → Task → List ℕ → List (List ℕ) → Type 0
AreRunAnswers table task secret [] = Unit {0}
AreRunAnswers table task secret (answers ∷ earlier) =
    AreRunAnswers table task secret earlier
    × AnswersUnless (is_hidden task.enclosures (kind_at task (Cleared task secret earlier))) table task answers
    (Cleared task secret earlier)

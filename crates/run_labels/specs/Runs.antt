-- A run of a guest with regions, with its labels and events, turn by turn.
use Rattle.std.specs.Prelude.{◌≡◌, ℕ, List, [], ◌∷◌, ◌++◌, Option, Some, None}
use Rattle.enclosure_regions.specs.declared.break_kinds.Break.{Break}
use Rattle.enclosure_regions.specs.declared.region_parts.Region.{Region}
use Rattle.flow_graph.specs.declared.events.Event.{Event}
use Rattle.region_machine.specs.Breaking.{Breaks}
use Rattle.region_machine.specs.Enclosures.{Enclosures, Kind, Enters, Leaves, Steps, kind_of}
use Rattle.region_machine.specs.Guests.{guest_walk}
use Rattle.region_machine.specs.Runs.{Place, real_turn}
use Rattle.rv32im_machine.specs.declared.stepping.Stepped.{Stepped}
use Rattle.rv32im_machine.specs.declared.stepping.Stepped.TheVariants.{Ran, Exited, Stopped}
use Rattle.rv32im_machine.specs.Folds.{real_end}
use Rattle.rv32im_machine.specs.Language.{Walk}
use Rattle.shadow_masks.specs.Writes.{LabelMap, default_map}
use Rattle.transfer_rules.specs.declared.operands.Operands.{Operands}
use Rattle.rv32im_machine.specs.declared.language.Operation.{Operation}
use Rattle.run_labels.specs.declared.faults.MeasureFault.{MeasureFault}
use Rattle.run_labels.specs.declared.faults.MeasureFault.TheVariants.{Guest as GuestFault, Region as RegionFault}
use Rattle.run_labels.specs.Traces.{EachAnswer, labels_in, events_in, secret_look}
use Rattle.run_labels.specs.TurnLabels.{at_start}
use Rattle.std.specs.Option.{option_or}

-- where a run stands, the labels of its registers and bytes, and the events of its turns
pub record LabelledRun : Type 0 where
  pub place : Place
  pub labels : LabelMap
  pub events : List Event

-- at the start nothing depends on the secret
abbrev pub unlabelled : Place → LabelledRun
unlabelled place = record { place = place; labels = default_map; events = [] }

-- no region is skipped
abbrev pub enclosing : List Region → Enclosures
enclosing regions = record { regions = regions; skip = [] }

-- ---- one turn

abbrev pub next_walk : List Region → LabelledRun → Walk
next_walk regions run = guest_walk regions run.place.state

-- the events of the turn, where the rules answer these masks
abbrev pub turn_events : List Region → List ℕ → LabelledRun → List Event
turn_events regions answers run = events_in (at_start run.labels) answers (next_walk regions run)

-- after the turn
abbrev pub next_run : List Region → List ℕ → LabelledRun → LabelledRun
next_run regions answers run = record {
  place = real_turn (enclosing regions) run.place;
  labels = labels_in (at_start run.labels) answers (next_walk regions run);
  events = run.events ++ turn_events regions answers run;
}

-- ---- why a turn refuses a run

abbrev pub entered_number : Kind → ℕ
entered_number (Enters region) = region.id
entered_number (Leaves region) = 0
entered_number (Steps region) = 0

abbrev pub broken_fault : Option Break → Option MeasureFault
broken_fault None = None
broken_fault (Some broken) = Some (RegionFault broken)

abbrev pub stopped_fault : Stepped → Option MeasureFault
stopped_fault Ran = None
stopped_fault (Exited status) = None
stopped_fault (Stopped fault) = Some (GuestFault fault)

-- what it looks at, then what it breaks, then its stop
abbrev pub turn_fault : List Region → List ℕ → LabelledRun → Option MeasureFault
turn_fault regions answers run =
    option_or
    (secret_look (entered_number (kind_of regions run.place.state.control)) (at_start run.labels) answers
    (next_walk regions run))
    (option_or (broken_fault (Breaks regions run.place.state))
    (stopped_fault (real_end (next_walk regions run)).control.mode))

-- ---- many turns

-- after the turns for which the rules gave these answers, the latest turn first
unfoldable pub run_after : List Region → List (List ℕ) → LabelledRun → LabelledRun
run_after regions [] run = run
run_after regions (answers ∷ earlier) run = next_run regions answers (run_after regions earlier run)

-- the fact holds of each answer of each turn
unfoldable pub EachRunAnswer :
    (Operation → Operands → ℕ → Type 0) → List Region → List (List ℕ) → LabelledRun → Type 0
EachRunAnswer Fact regions [] run = Unit {0}
EachRunAnswer Fact regions (answers ∷ earlier) run =
    EachRunAnswer Fact regions earlier run
    × EachAnswer Fact (at_start (run_after regions earlier run).labels) answers
    (next_walk regions (run_after regions earlier run))

-- no turn refuses the run
unfoldable pub IsUnrefused : List Region → List (List ℕ) → LabelledRun → Type 0
IsUnrefused regions [] run = Unit {0}
IsUnrefused regions (answers ∷ earlier) run =
    IsUnrefused regions earlier run × (turn_fault regions answers (run_after regions earlier run) ≡ None)

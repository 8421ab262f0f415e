-- What is measured of a run.
use Rattle.std.specs.Prelude.{◌≡◌, ℕ, List, ◌∷◌}
use Rattle.cut_file.specs.Cuts.{CutPicture}
use Rattle.cut_file.specs.Pictures.{cut_picture}
use Rattle.acceptance_law.specs.RunCuts.{IsCutOf}
use Rattle.acceptance_law.specs.Sides.{named_side}
use Rattle.enclosure_regions.specs.declared.region_parts.Region.{Region}
use Rattle.flow_graph.specs.declared.events.Event.{Event}
use Rattle.flow_graph.specs.declared.graphs.Graph.{Graph}
use Rattle.flow_graph.specs.EventGraphs.{IsGraphOf}
use Rattle.location_collapse.specs.Limits.{ExceedsLimit}
use Rattle.max_flow.specs.declared.answers.Flow.{Flow}
use Rattle.max_flow.specs.declared.answers.Side.{Side}
use Rattle.max_flow.specs.Flows.{AreAtMost, HasNoGreater, IsFlowOf, Least, flow_value, side_capacity}
use Rattle.run_labels.specs.Runs.{LabelledRun, run_after}
use Rattle.run_labels.specs.declared.faults.MeasureFault.{MeasureFault}
use Rattle.run_labels.specs.declared.faults.MeasureFault.TheVariants.{TurnLimit, Guest, Region as RegionFault}
use Rattle.run_labels.specs.declared.faults.MeasureFault.TheVariants.{SecretCode, BaseSecret, GraphLimit, Memory}
use Rattle.measuring.specs.declared.measured.Measured.{Measured}
use Rattle.measuring.specs.RunCauses.{Exits, GoesOn, IsRefused}
use Rattle.flow_base.specs.declared.outputs.Output.{Output}

-- the graph of events, which exceeds no limit, a maximum flow of it, no part of which exceeds its value, its least minimum
-- side, and the cut of that side; the events are those of a run, or the united ones of several
pub record IsMeasureOf (secret_len : ℕ) (events : List Event) (of_events : Graph) (maximum : ℕ) (through : Flow)
    (least_side : Side) (side_cut : CutPicture) : Type 0 where
  pub graph : IsGraphOf events of_events
  pub within : ¬ ExceedsLimit events
  pub flow : IsFlowOf of_events through.points through.links
  pub value : flow_value of_events through.points through.links ≡ maximum
  pub greatest : HasNoGreater of_events maximum
  pub points_most : AreAtMost maximum through.points
  pub links_most : AreAtMost maximum through.links
  pub side : Least of_events least_side.points least_side.relays
  pub capacity : side_capacity of_events least_side.points least_side.relays ≡ maximum
  pub cut : IsCutOf secret_len events (named_side of_events least_side.points least_side.relays) maximum side_cut

-- the run exits within the limit, and this is the measure of its events
pub record Measures (table : ℕ) (regions : List Region) (start : LabelledRun) (secret_len limit : ℕ)
    (measured : Measured) : Type 0 where
  pub exits : Exits table regions start limit measured.turns measured.output
  pub measure : IsMeasureOf secret_len (run_after regions (exits.last ∷ exits.earlier) start).events measured.graph
      measured.value measured.flow measured.side (cut_picture measured.cut)

-- the run exits within the limit, and its graph exceeds a limit
pub record IsTooLarge (table : ℕ) (regions : List Region) (start : LabelledRun) (limit : ℕ) : Type 0 where
  pub turns : ℕ
  pub output : Output
  pub exits : Exits table regions start limit turns output
  pub exceeds : ExceedsLimit (run_after regions (exits.last ∷ exits.earlier) start).events

-- why a run is not measured, a row for each refusal: all its turns are made, a turn is refused, or its graph exceeds a
-- limit; of lack of memory nothing is said
abbrev pub HasCause : ℕ → List Region → LabelledRun → ℕ → MeasureFault → Type 0
HasCause table regions start limit (TurnLimit turns) = (turns ≡ limit) × GoesOn table regions start limit
HasCause table regions start limit (Guest fault) = IsRefused table regions start limit (Guest fault)
HasCause table regions start limit (RegionFault broken) = IsRefused table regions start limit (RegionFault broken)
HasCause table regions start limit (SecretCode pc) = IsRefused table regions start limit (SecretCode pc)
HasCause table regions start limit (BaseSecret region register) =
    IsRefused table regions start limit (BaseSecret region register)
HasCause table regions start limit GraphLimit = IsTooLarge table regions start limit
HasCause table regions start limit Memory = Unit {0}

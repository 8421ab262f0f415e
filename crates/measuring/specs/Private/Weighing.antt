-- What is measured of an exit.
use Rattle.std.specs.Prelude.{◌≡◌, ◌≤◌, ℕ, List, Bool, true, length}
use Rattle.acceptance_law.specs.SecretBits.{ReadsSecret}
use Rattle.acceptance_law.specs.VisitLaws.{FitCuts}
use Rattle.cut_file.specs.Pictures.{cut_picture}
use Rattle.flow_graph.specs.declared.events.Event.{Event}
use Rattle.run_labels.specs.declared.faults.MeasureFault.{MeasureFault}
use Rattle.run_labels.specs.declared.faults.MeasureFault.TheVariants.{TurnLimit, Guest, Region as RegionFault}
use Rattle.run_labels.specs.declared.faults.MeasureFault.TheVariants.{SecretCode, BaseSecret, GraphLimit, Memory}
use Rattle.measuring.specs.declared.following.Exit.{Exit}
use Rattle.measuring.specs.declared.measured.Measured.{Measured}
use Rattle.measuring.specs.declared.recordings.Recording.{Recording}
use Rattle.measuring.specs.Measures.{IsMeasureOf}
use Rattle.measuring.specs.Recordings.{Records}

-- a recording stands for events that fit into a cut and read a secret of at most 65,536 bytes
pub record HasRunEvents (recording : Recording) : Type 0 where
  pub events : List Event
  pub records : Records recording events
  pub fit : FitCuts events
  pub secret : List ℕ
  pub short : length secret ≤ 65536
  pub reads : ReadsSecret secret events

-- the measure of an exit, by whatever events its recording stands for
pub record Weighs (exit : Exit) (secret_len : ℕ) (measured : Measured) : Type 0 where
  pub turns : measured.turns ≡ exit.turns
  pub output : measured.output ≡ exit.output
  pub measure : (events : List Event) → Records exit.recording events
      → IsMeasureOf secret_len events measured.graph measured.value measured.flow measured.side (cut_picture measured.cut)

-- why an exit is not measured: its events exceed a limit, or memory is short
abbrev pub IsUnweighed : Bool → MeasureFault → Type 0
IsUnweighed is_full GraphLimit = is_full ≡ true
IsUnweighed is_full Memory = Unit {0}
IsUnweighed is_full (TurnLimit turns) = ⊥
IsUnweighed is_full (Guest fault) = ⊥
IsUnweighed is_full (RegionFault broken) = ⊥
IsUnweighed is_full (SecretCode pc) = ⊥
IsUnweighed is_full (BaseSecret region register) = ⊥

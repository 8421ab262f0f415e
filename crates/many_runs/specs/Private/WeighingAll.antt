-- What is measured of a recording of several runs.
use Rattle.std.specs.Prelude.{◌≡◌, ℕ, ◌<◌, true, List}
use Rattle.cut_file.specs.Pictures.{cut_picture}
use Rattle.flow_graph.specs.declared.events.Event.{Event}
use Rattle.measuring.specs.declared.recordings.Recording.{Recording}
use Rattle.measuring.specs.Measures.{IsMeasureOf}
use Rattle.measuring.specs.Recordings.{Records}
use Rattle.acceptance_law.specs.VisitLaws.{FitCuts}
use Rattle.many_runs.specs.declared.faults.ManyFault.{ManyFault}
use Rattle.many_runs.specs.declared.faults.ManyFault.TheVariants.{Length, Run, UnitedLimit, BudgetLimit, Memory}
use Rattle.many_runs.specs.declared.many.Many.{Many}
use Rattle.many_runs.specs.Causes.{HasMaximum}
use Rattle.location_collapse.specs.Limits.{ExceedsLimit}

-- the recording stands for some events that fit into a cut
pub record HasFittingEvents (recording : Recording) : Type 0 where
  pub events : List Event
  pub records : Records recording events
  pub fit : FitCuts events

-- the measure of whatever events the recording stands for
abbrev pub WeighsAll : Recording → ℕ → Many → Type 0
WeighsAll union secret_len many =
    (events : List Event) → Records union events
    → IsMeasureOf secret_len events many.graph many.value many.flow many.side (cut_picture many.cut)

-- the maximum flow of the graph of these events, which exceeds no limit, is greater than the limit of a budget
pub record IsOverBudget (events : List Event) (value : ℕ) : Type 0 where
  pub within : ¬ ExceedsLimit events
  pub maximum : HasMaximum events value
  pub over : 1048576 < value

-- why a recording is not measured
abbrev pub IsWeighFault : Recording → ManyFault → Type 0
IsWeighFault union UnitedLimit = union.collapse.is_full ≡ true
IsWeighFault union (BudgetLimit value) = (events : List Event) → Records union events → IsOverBudget events value
IsWeighFault union Memory = Unit {0}
IsWeighFault union (Length index first got) = ⊥
IsWeighFault union (Run index fault) = ⊥

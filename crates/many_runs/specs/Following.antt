-- The runs on several secrets, as they are followed one by one.
use Rattle.std.specs.Prelude.{ℕ, nat_le, Bool, List, length}
use Rattle.flow_graph.specs.declared.events.Event.{Event}
use Rattle.measuring.specs.declared.recordings.Recording.{Recording}
use Rattle.run_labels.specs.declared.faults.MeasureFault.{MeasureFault}
use Rattle.run_labels.specs.declared.faults.MeasureFault.TheVariants.{TurnLimit, Guest, Region as RegionFault}
use Rattle.run_labels.specs.declared.faults.MeasureFault.TheVariants.{SecretCode, BaseSecret, GraphLimit}
use Rattle.run_labels.specs.declared.faults.MeasureFault.TheVariants.{Memory as RunMemory}
use Rattle.many_runs.specs.declared.faults.ManyFault.{ManyFault}
use Rattle.many_runs.specs.declared.faults.ManyFault.TheVariants.{Length, Run, UnitedLimit, BudgetLimit, Memory}
use Rattle.many_runs.specs.Causes.{HasOtherLength, IsFirstRefused}
use Rattle.many_runs.specs.Measures.{AreRunsOn, IsRunOn, Setup}
use Rattle.many_runs.specs.Private.Recordings.{AllKeep, AreSameTogether, Keeps}

-- at most 65,536 bytes
abbrev pub is_short_secret : List ℕ → Bool
is_short_secret secret = nat_le (length secret) 65536

-- the run on this secret is measured, and this is its recording
pub record IsFollowed (setup : Setup) (secret : List ℕ) (recording : Recording) : Type 0 where
  pub events : List Event
  pub run : IsRunOn setup secret events
  pub keeps : Keeps recording events

-- so is each run on one of the secrets, and these recordings have together what all of them have
pub record AreFollowed (setup : Setup) (secrets : List (List ℕ)) (recordings : List Recording) : Type 0 where
  pub runs : List (List Event)
  pub are_runs : AreRunsOn setup secrets runs
  pub kept : List (List Event)
  pub keep : AllKeep recordings kept
  pub same : AreSameTogether runs kept

-- what is answered where the run with this index is not measured
abbrev pub many_fault_of : ℕ → MeasureFault → ManyFault
many_fault_of index (TurnLimit limit) = Run index (TurnLimit limit)
many_fault_of index (Guest fault) = Run index (Guest fault)
many_fault_of index (RegionFault broken) = Run index (RegionFault broken)
many_fault_of index (SecretCode pc) = Run index (SecretCode pc)
many_fault_of index (BaseSecret region register) = Run index (BaseSecret region register)
many_fault_of index GraphLimit = Run index GraphLimit
many_fault_of index RunMemory = Memory

-- why a run is not measured
abbrev pub IsRunFault : Setup → List (List ℕ) → ManyFault → Type 0
IsRunFault setup secrets (Run index fault) = IsFirstRefused setup secrets index fault
IsRunFault setup secrets Memory = Unit {0}
IsRunFault setup secrets (Length index first got) = ⊥
IsRunFault setup secrets UnitedLimit = ⊥
IsRunFault setup secrets (BudgetLimit value) = ⊥

-- why the secrets have no common length
abbrev pub IsLengthFault : List (List ℕ) → ManyFault → Type 0
IsLengthFault secrets (Length index first got) = HasOtherLength secrets index first got
IsLengthFault secrets (Run index fault) = ⊥
IsLengthFault secrets UnitedLimit = ⊥
IsLengthFault secrets (BudgetLimit value) = ⊥
IsLengthFault secrets Memory = ⊥

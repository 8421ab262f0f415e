-- A run that is followed turn by turn, and how it ends.
use Rattle.std.specs.Prelude.{◌≡◌, ℕ, List, ◌∷◌, Bool, true, false}
use Rattle.enclosure_regions.specs.declared.region_parts.Region.{Region}
use Rattle.region_machine.specs.Runs.{has_exited}
use Rattle.rv32im_machine.specs.State.{State}
use Rattle.shadow_masks.specs.Shades.{Shades}
use Rattle.run_labels.specs.Runs.{LabelledRun, run_after}
use Rattle.run_labels.specs.declared.faults.MeasureFault.{MeasureFault}
use Rattle.run_labels.specs.declared.faults.MeasureFault.TheVariants.{TurnLimit, Guest, Region as RegionFault}
use Rattle.run_labels.specs.declared.faults.MeasureFault.TheVariants.{SecretCode, BaseSecret, GraphLimit, Memory}
use Rattle.tracked_run.specs.Runs.{Stands}
use Rattle.measuring.specs.declared.following.Exit.{Exit}
use Rattle.measuring.specs.declared.following.RunEnd.{RunEnd}
use Rattle.measuring.specs.declared.following.RunEnd.TheVariants.{Exited, Refused}
use Rattle.measuring.specs.declared.recordings.Recording.{Recording}
use Rattle.measuring.specs.Recordings.{Records}
use Rattle.measuring.specs.Measures.{HasCause}
use Rattle.measuring.specs.RunCauses.{IsUnrefusedRun, Exits}

-- machine, shadow and recording stand where the run does after so many turns
pub record StandsAfter (table : ℕ) (regions : List Region) (start : LabelledRun) (turns : ℕ) (machine : State)
    (shadow : Shades) (recording : Recording) : Type 0 where
  pub answers : List (List ℕ)
  pub is_run : IsUnrefusedRun table regions start answers turns
  pub stands : Stands machine shadow (run_after regions answers start)
  pub running : has_exited machine.control.mode ≡ false
  pub records : Records recording (run_after regions answers start).events

-- the run exits, and these are its events
pub record HasEnded (table : ℕ) (regions : List Region) (start : LabelledRun) (limit : ℕ) (end : Exit) : Type 0 where
  pub exits : Exits table regions start limit end.turns end.output
  pub records : Records end.recording (run_after regions (exits.last ∷ exits.earlier) start).events

-- what a run can be refused for by itself; limits of its graph and memory are looked at elsewhere
abbrev pub is_of_run : MeasureFault → Bool
is_of_run (TurnLimit turns) = true
is_of_run (Guest fault) = true
is_of_run (RegionFault broken) = true
is_of_run (SecretCode pc) = true
is_of_run (BaseSecret region register) = true
is_of_run GraphLimit = false
is_of_run Memory = false

-- the run exits so, or it is refused for this, which is the cause of the run itself
abbrev pub EndsAs : ℕ → List Region → LabelledRun → ℕ → RunEnd → Type 0
EndsAs table regions start limit (Exited exit) = HasEnded table regions start limit exit
EndsAs table regions start limit (Refused fault) =
    (is_of_run fault ≡ true) × HasCause table regions start limit fault

-- What a bounded answer says of all secrets, whatever they are.
use Rattle.std.specs.Prelude.{◌≡◌, ℕ, ◌≤◌, ◌^◌, List, [], length, None}
use Rattle.std.specs.List.{AllByRecursion}
use Rattle.crossing_bits.specs.Askers.{AllDifferent}
use Rattle.flow_base.specs.declared.outputs.Output.{Output}
use Rattle.acceptance_law.specs.Inputs.{AreBytes}
use Rattle.lockstep_replay.specs.Acceptance.{Accept, HasExited}
use Rattle.lockstep_replay.specs.Tasks.{Limits, Task, real_of}
use Rattle.every_secret.specs.Bounds.{TreeAnswer, Found, IsBounded, IsUnclear, output_count}
use Rattle.every_secret.specs.Listed.{IsListed}

-- a secret of the length that the cut names
pub record IsSecret (task : Task) (secret : List ℕ) : Type 0 where
  pub bytes : AreBytes secret
  pub has_length : length secret ≡ task.secret_length

-- the run of a secret exits within the turns, with this output, and breaks no region
pub record Gives (task : Task) (limits : Limits) (secret : List ℕ) (output : Output) : Type 0 where
  pub is_secret : IsSecret task secret
  pub unbroken : (real_of task secret limits.turns).broken ≡ None
  pub exits : HasExited (real_of task secret limits.turns).state output

-- an output that some secret gives
abbrev pub IsGiven : Task → Limits → Output → Type 0
IsGiven task limits output = (secret : List ℕ) × Gives task limits secret output

-- AreAll: what is found of a task within its limits tells of all secrets
pub record AreAll (task : Task) (limits : Limits) (found : Found) : Type 0 where
  -- each that gives an output is accepted with it, and one of the patterns stands for it
  pub accepted : (secret : List ℕ) (output : Output) → Gives task limits secret output →
      Accept task limits secret output × IsListed found.patterns output
  -- so there are at most as many different outputs as the patterns count
  pub few : (outputs : List Output) → AllDifferent outputs → AllByRecursion (IsGiven task limits) outputs →
      length outputs ≤ output_count found.patterns
  -- and at most as many as strings of the budget's bits
  pub within : output_count found.patterns ≤ 2 ^ limits.budget
  -- with no region, and where no path stops, every secret gives an output
  pub every : task.enclosures.regions ≡ [] → found.stopped ≡ 0 → (secret : List ℕ) → IsSecret task secret →
      (output : Output) × Gives task limits secret output

-- where the answer is bounded, it tells of all secrets
abbrev pub TellsAll : Task → Limits → TreeAnswer → Type 0
TellsAll task limits (IsBounded found) = AreAll task limits found
TellsAll task limits (IsUnclear bits why) = Unit {0}

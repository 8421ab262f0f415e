-- What a bounded answer says where the public input is not known: of all pairs of a public input and a secret, and of runs
-- again and again, each with a public input that is chosen by the outputs so far.
use Rattle.std.specs.Prelude.{◌≡◌, ℕ, ◌≤◌, ◌^◌, ◌*◌, List, [], ◌∷◌, ◌++◌, length, slice_index}
use Rattle.std.specs.List.{AllByRecursion}
use Rattle.crossing_bits.specs.Askers.{AllDifferent}
use Rattle.flow_base.specs.declared.outputs.Output.{Output}
use Rattle.flow_base.specs.Words.{Agree}
use Rattle.rv32im_machine.specs.Start.{zeros}
use Rattle.acceptance_law.specs.Inputs.{AreBytes}
use Rattle.lockstep_replay.specs.Acceptance.{Accept}
use Rattle.lockstep_replay.specs.Tasks.{Limits, Task}
use Rattle.every_secret.specs.declared.public_inputs.PublicInput.{PublicInput}
use Rattle.every_secret.specs.declared.public_inputs.PublicInput.TheVariants.{Given, Any}
use Rattle.every_secret.specs.AllSecrets.{Gives, IsSecret, TellsAll}
use Rattle.every_secret.specs.Bounds.{TreeAnswer, Found, IsBounded, IsUnclear, output_count}
use Rattle.every_secret.specs.Listed.{IsListed}
use Rattle.every_secret.specs.Rules.{public_mask}

-- ---- what a walk sees of the public input

-- zeros stand for bytes that are not known
abbrev pub seen_input : PublicInput → List ℕ → List ℕ
seen_input Given input = input
seen_input Any input = zeros (length input)

-- the task with another public input
abbrev pub with_public : Task → List ℕ → Task
with_public task input = record task { public_input = input }

-- the task that is walked
abbrev pub seen_task : PublicInput → Task → Task
seen_task public task = with_public task (seen_input public task.public_input)

-- a public input is one of those for which the one that is seen stands
pub record AreSeenAs (public : PublicInput) (seen input : List ℕ) : Type 0 where
  pub seen_bytes : AreBytes seen
  pub bytes : AreBytes input
  pub has_length : length input ≡ length seen
  pub agree : (index : ℕ) → Agree (public_mask public) (slice_index input index) (slice_index seen index)

-- ---- pairs of a public input and a secret

-- a public input of the length that is known
pub record IsPublic (task : Task) (input : List ℕ) : Type 0 where
  pub bytes : AreBytes input
  pub has_length : length input ≡ length task.public_input

-- an output that some pair gives
pub record IsPairGiven (task : Task) (limits : Limits) (output : Output) : Type 0 where
  pub input : List ℕ
  pub secret : List ℕ
  pub is_public : IsPublic task input
  pub gives : Gives (with_public task input) limits secret output

-- ---- runs again and again

-- a rule says the next public input by the outputs so far, the first of them first
pub record IsRule (task : Task) (rule : List Output → List ℕ) : Type 0 where
  pub chooses : (seen : List Output) → IsPublic task (rule seen)

-- the outputs of runs on one secret by a rule, after those that were seen
unfoldable pub AreRuns : Task → Limits → (List Output → List ℕ) → List ℕ → List Output → List Output → Type 0
AreRuns task limits rule secret seen [] = Unit {0}
AreRuns task limits rule secret seen (output ∷ outputs) =
    Gives (with_public task (rule seen)) limits secret output
    × AreRuns task limits rule secret (seen ++ output ∷ []) outputs

-- the outputs of so many runs on some secret
pub record IsHistory (task : Task) (limits : Limits) (rule : List Output → List ℕ) (runs : ℕ) (outputs : List Output) :
    Type 0 where
  pub count : length outputs ≡ runs
  pub secret : List ℕ
  pub are_runs : AreRuns task limits rule secret [] outputs

-- ---- what is told

-- AreAllPairs: what is found of a task within its limits tells of all pairs
pub record AreAllPairs (task : Task) (limits : Limits) (found : Found) : Type 0 where
  -- each that gives an output is accepted with it, and one of the patterns stands for it
  pub accepted : (input secret : List ℕ) (output : Output) → IsPublic task input →
      Gives (with_public task input) limits secret output →
      Accept (with_public task input) limits secret output × IsListed found.patterns output
  -- so there are at most as many different outputs of all pairs as the patterns count
  pub few : (outputs : List Output) → AllDifferent outputs → AllByRecursion (IsPairGiven task limits) outputs →
      length outputs ≤ output_count found.patterns
  -- and at most as many as strings of the budget's bits
  pub within : output_count found.patterns ≤ 2 ^ limits.budget
  -- with no region, and where no path stops, every pair gives an output
  pub every : task.enclosures.regions ≡ [] → found.stopped ≡ 0 → (input secret : List ℕ) → IsPublic task input →
      IsSecret task secret → (output : Output) × Gives (with_public task input) limits secret output
  -- by a rule so many runs have at most that power of different lists of outputs, whatever the secret is
  pub again : (rule : List Output → List ℕ) → IsRule task rule → (runs : ℕ) (lists : List (List Output)) →
      AllDifferent lists → AllByRecursion (IsHistory task limits rule runs) lists →
      length lists ≤ output_count found.patterns ^ runs
  -- so each run gives away at most the bits that suffice for one
  pub bits_again : (bits runs : ℕ) → output_count found.patterns ≤ 2 ^ bits →
      output_count found.patterns ^ runs ≤ 2 ^ (runs * bits)
  -- and with no region, and where no path stops, every secret has such a list
  pub goes_on : task.enclosures.regions ≡ [] → found.stopped ≡ 0 → (rule : List Output → List ℕ) → IsRule task rule →
      (runs : ℕ) (secret : List ℕ) → IsSecret task secret →
      (outputs : List Output) × ((length outputs ≡ runs) × AreRuns task limits rule secret [] outputs)

-- what a bounded answer tells, where so much is known of the public input
abbrev pub TellsOf : PublicInput → Task → Limits → TreeAnswer → Type 0
TellsOf Given task limits answer = TellsAll task limits answer
TellsOf Any task limits (IsBounded found) = AreAllPairs task limits found
TellsOf Any task limits (IsUnclear bits why) = Unit {0}

-- The laws of acceptance: the replay is done, prefixes, crossing strings, outputs, and greater limits.
use Rattle.std.specs.Prelude.{◌≡◌, ℕ, ◌≤◌, ◌^◌, List, length, Bool}
use Rattle.std.specs.List.{AllByRecursion}
use Rattle.flow_base.specs.declared.outputs.Output.{Output}
use Rattle.crossing_bits.specs.Askers.{IsPrefix, AllDifferent}
use Rattle.crossing_bits.specs.Weights.{IsPrefixFree, weight}
use Rattle.lockstep_replay.specs.Tasks.{Task, Limits, Cross}
use Rattle.lockstep_replay.specs.Acceptance.{Done, Accept, IsCross, IsOutput}

-- the replay of an accepted secret's crossing bits is done with its output
abbrev pub DoneLaw : Type 0
DoneLaw =
    (task : Task) (limits : Limits) (secret : List ℕ) (output : Output) → Accept task limits secret output →
    Done task limits.turns (Cross task secret limits.turns) output

-- two strings on which the replay is done are equal, or neither is a prefix of the other
abbrev pub PrefixesLaw : Type 0
PrefixesLaw =
    (task : Task) (turns : ℕ) (first second : List Bool) (output other : Output) → Done task turns first output →
    Done task turns second other → IsPrefix first second → first ≡ second

-- different crossing strings of accepted secrets are prefix-free, and their weight is at most 2 to the budget
abbrev pub CrossesLaw : Type 0
CrossesLaw =
    (task : Task) (limits : Limits) (strings : List (List Bool)) → AllByRecursion (IsCross task limits) strings →
    AllDifferent strings → IsPrefixFree strings × (weight limits.budget strings ≤ 2 ^ limits.budget)

-- at most 2 to the budget different outputs arise of accepted secrets
abbrev pub BoundLaw : Type 0
BoundLaw =
    (task : Task) (limits : Limits) (outputs : List Output) → AllByRecursion (IsOutput task limits) outputs →
    AllDifferent outputs → length outputs ≤ 2 ^ limits.budget

-- what is accepted within limits is accepted within greater ones
abbrev pub GreaterLimitsLaw : Type 0
GreaterLimitsLaw =
    (task : Task) (limits greater : Limits) (secret : List ℕ) (output : Output) → limits.budget ≤ greater.budget →
    limits.turns ≤ greater.turns → Accept task limits secret output → Accept task greater secret output

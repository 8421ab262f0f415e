-- The headline of a check, whether a second machine judges or masks do: what the judgement of a secret says, and how many
-- different outputs the accepted secrets have.
use Rattle.std.specs.Prelude.{◌≡◌, ℕ, ◌≤◌, ◌^◌, List, length, Bool}
use Rattle.std.specs.List.{AllByRecursion}
use Rattle.flow_base.specs.declared.outputs.Output.{Output}
use Rattle.crossing_bits.specs.Askers.{AllDifferent}
use Rattle.lockstep_replay.specs.declared.verdicts.Why.{Why}
use Rattle.lockstep_replay.specs.Tasks.{Task, Limits, real_of, Cross}
use Rattle.lockstep_replay.specs.Acceptance.{Accept, Done, HasExited, IsOutput}
use Rattle.lockstep_replay.specs.Verdicts.{Judgement, Accepts, Rejects, First}
use Rattle.lockstep_replay.specs.VerdictLaws.{Cause}

-- An accepted secret: it is accepted within the limits; the bits are its crossing bits, and at most so many; the replay
-- of these bits, on the task alone, is done with the output of the secret's real run.
pub record IsAccepted (task : Task) (limits : Limits) (secret : List ℕ) (bits : List Bool) (output : Output) :
    Type 0 where
  pub accept : Accept task limits secret output
  pub crossing : bits ≡ Cross task secret limits.turns
  pub few : length bits ≤ limits.budget
  pub replay : Done task limits.turns bits output
  pub real : HasExited (real_of task secret limits.turns).state output

-- A rejected secret: no output of it is accepted, and the reason that is printed holds, and is the first that does: of
-- the earliest turn, and of one turn the first in their order.
pub record IsRejected (task : Task) (limits : Limits) (secret : List ℕ) (why : Why) : Type 0 where
  pub refused : (output : Output) → ¬ Accept task limits secret output
  pub cause : Cause task limits secret why
  pub first : First task limits secret ≡ Rejects why

-- what the judgement of a secret says
abbrev pub Says : Task → Limits → List ℕ → Judgement → Type 0
Says task limits secret (Accepts bits output) = IsAccepted task limits secret bits output
Says task limits secret (Rejects why) = IsRejected task limits secret why

-- At most 2 to the budget different outputs arise of all secrets that are accepted, by this check or any other of the
-- same task within the same limits.
abbrev pub AreFewOfAll : Task → Limits → Type 0
AreFewOfAll task limits =
    (outputs : List Output) → AllDifferent outputs → AllByRecursion (IsOutput task limits) outputs
    → length outputs ≤ 2 ^ limits.budget

-- Of a guest with its public input, its regions and a cut, within limits: the judgement of each secret, which is the one
-- that is printed, says what it says, and the outputs are few.
pub record Headline (task : Task) (limits : Limits) : Type 0 where
  pub say : (secret : List ℕ) → Says task limits secret (First task limits secret)
  pub bound : AreFewOfAll task limits

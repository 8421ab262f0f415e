-- Where the two runs of a check begin.
use Rattle.std.specs.Prelude.{◌≡◌, ℕ, List, []}
use Rattle.replay_machine.specs.Standing.{Stands}
use Rattle.replay_machine.specs.Visits.{IsAhead}
use Rattle.lockstep_replay.specs.declared.two_runs.TwoRuns.{TwoRuns}
use Rattle.lockstep_replay.specs.Tasks.{Task, Limits, real_start, replay_start}

-- the two runs are at the starts that a task gives them, the real one with this secret, under its regions and masks and
-- a budget
pub record Begins (runs : TwoRuns) (task : Task) (limits : Limits) (secret : List ℕ) : Type 0 where
  pub real : (real_start task secret).state ≡ runs.real
  pub enclosures : runs.replay.enclosures ≡ task.enclosures
  pub ahead : IsAhead runs.tally.masks task.masks []
  pub stands : Stands runs.replay task.masks (replay_start task)
  pub budget : runs.tally.budget ≡ limits.budget

-- What a lockstep judges.
use Rattle.std.specs.Prelude.{◌≡◌, ℕ, List}
use Rattle.lockstep_replay.specs.declared.lockstep.Lockstep.{Lockstep}
use Rattle.lockstep_replay.specs.Beginnings.{Begins}
use Rattle.lockstep_replay.specs.Tasks.{Task, Limits}

-- the lockstep is a check of this secret
pub record IsLockstepOf (lockstep : Lockstep) (task : Task) (limits : Limits) (secret : List ℕ) : Type 0 where
  pub begins : Begins lockstep.runs task limits secret
  pub wanted : lockstep.wanted ≡ task.secret_length
  pub turns : lockstep.turns ≡ limits.turns

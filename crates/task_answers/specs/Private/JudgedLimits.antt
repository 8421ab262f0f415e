-- The limits within which a secret is judged, as numbers.
use Rattle.lockstep_replay.specs.Tasks.{Limits as NumberLimits}
use Rattle.task_answers.specs.declared.limits.Limits.{Limits}

abbrev pub limits_in : Limits → NumberLimits
limits_in limits = record { budget = limits.budget; turns = limits.turns }

-- As many judgements as secrets.
use Rattle.std.proofs.Common.{◌≡◌, ℕ, List, [], ◌∷◌, length, arith}
use Rattle.std.proofs.lemmas.Grind.{common_steps}
use Rattle.lockstep_replay.specs.Tasks.{Task, Limits}
use Rattle.task_answers.specs.Checks.{judgements_of}

pub length_judgements :
    (task : Task) (limits : Limits) (secrets : List (List ℕ)) →
    length (judgements_of task limits secrets) ≡ length secrets
length_judgements task limits [] = grind (arith, common_steps)
length_judgements task limits (secret ∷ secrets) =
    grind (arith, common_steps, length_judgements task limits secrets)

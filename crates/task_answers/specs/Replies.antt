-- What a command is answered by: a reply, or a refusal, which is told by one line.
use Rattle.std.specs.Prelude.{◌≡◌, ◌⊎◌, ℕ, List, ◌++◌, codes, Result, Ok, Err}
use Rattle.command_tasks.specs.declared.refusals.Refusal.{Refusal}
use Rattle.command_tasks.specs.declared.statuses.Status.TheVariants.{Done}
use Rattle.command_tasks.specs.Refusals.{refusal_status, refusal_text}
use Rattle.task_answers.specs.declared.replies.Reply.{Reply}

abbrev pub Answer : Type 0
Answer = Result Reply Refusal

-- the reply that an answer is told by
abbrev pub told : Answer → Reply
told (Ok reply) = reply
told (Err refusal) = record { status = refusal_status refusal; text = refusal_text refusal ++ codes "\n" }

-- a command that is done, with this text
abbrev pub done_by : List ℕ → Answer
done_by text = Ok (record { status = Done; text = text })

-- The answer to what is read, where something can be wrong with it: it is refused, or it is this, which is answered.
abbrev pub Reads : {A : Type 0} → (A → Type 0) → (Refusal → Type 0) → (A → Answer → Type 0) → Answer → Type 0
Reads {A = A} Is IsRefused Answers answer =
    ((refusal : Refusal) × IsRefused refusal × (answer ≡ Err refusal)) ⊎ ((it : A) × Is it × Answers it answer)

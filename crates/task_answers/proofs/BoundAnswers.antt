-- A verdict that is bounded, and what is answered of it.
use Rattle.std.proofs.Common.{◌≡◌}
use Rattle.every_secret.specs.declared.verdicts.Bounded.{Bounded}
use Rattle.every_secret.specs.declared.verdicts.BoundVerdict.TheVariants as verdict
use Rattle.every_secret.specs.AnyPublic.{TellsOf}
use Rattle.every_secret.specs.Bounds.{Found, IsBounded, IsUnclear, Shows, TreeAnswer, summary_in, summary_of}
use Rattle.command_tasks.specs.Tasks.{AllSecretsTask}
use Rattle.task_answers.specs.Bounding.{AnswersBound, bound_limits, public_of}
use Rattle.task_answers.specs.Replies.{Answer}
use Rattle.task_answers.specs.Checks.{judged_by}

pub bounded_answers : (all : AllSecretsTask) (bounded : Bounded) (known : TreeAnswer) (answer : Answer) →
    Shows (verdict.Bounded bounded) known → TellsOf (public_of all) (judged_by all.guest all.cut) (bound_limits all) known →
    ((found : Found) → summary_in bounded ≡ summary_of found →
    TellsOf (public_of all) (judged_by all.guest all.cut) (bound_limits all) (IsBounded found) →
    AnswersBound all (IsBounded found) answer) →
    AnswersBound all known answer
bounded_answers all bounded (IsBounded found) answer shows tells h = h found shows tells
bounded_answers all bounded (IsUnclear bits why) answer shows tells h = absurd shows

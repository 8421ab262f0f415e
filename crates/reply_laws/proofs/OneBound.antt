-- A bound is one, and so are its number of outputs and the bits that suffice for them: so the answers to `bound` are one
-- where there are no more paths than walks may be made.
use Rattle.std.proofs.Common.{◌≡◌, ◌∙◌, ℕ, Ok, inl, inr, refl, sym, ap, arith}
use Rattle.every_secret.specs.Bounds.{Found, IsBounded, IsLeastPower, IsUnclear, TreeAnswer, summary_of}
use Rattle.command_tasks.specs.declared.statuses.Status.TheVariants.{Done}
use Rattle.command_tasks.specs.Tasks.{AllSecretsTask}
use Rattle.task_answers.specs.Bounding.{AnswersAllSecrets, AnswersBound, AnswersTooMany, bound_of, bounded_text}
use Rattle.task_answers.specs.Replies.{Answer}
use Rattle.commands.proofs.Readings.{status_of}
use Rattle.reply_laws.specs.Laws.{CompletesBound, HasFewPaths}

one_power : (outputs a b : ℕ) → IsLeastPower outputs a → IsLeastPower outputs b → a ≡ b
one_power outputs a b one other =
    let low = one.least b other.enough in
    let high = other.least a one.enough in
    omega (arith, low, high)

same_bound : (all : AllSecretsTask) (known : TreeAnswer) (first second : Answer) → AnswersBound all known first →
    AnswersBound all known second → first ≡ second
same_bound all (IsBounded found) first second (tells, (a, one, e)) (also, (b, other, f)) =
    e ∙ (ap (λ bits. Ok (record { status = Done; text = bounded_text all (summary_of found) bits })) (one_power _ a b one other)
    ∙ sym f)
same_bound all (IsUnclear bits why) first second e f = e ∙ sym f

few_not_many : (all : AllSecretsTask) (answer : Answer) → HasFewPaths all → AnswersTooMany all answer → ⊥
few_not_many all answer few (bits, paths, e) = let more = paths.more in omega (arith, few, more)

pub bound_same : (all : AllSecretsTask) (first second : Answer) → HasFewPaths all → AnswersAllSecrets all first →
    AnswersAllSecrets all second → first ≡ second
bound_same all first second few (inl one) (inl other) = same_bound all (bound_of all) first second one other
bound_same all first second few (inl one) (inr many) = absurd (few_not_many all second few many)
bound_same all first second few (inr many) other = absurd (few_not_many all first few many)

completes : (all : AllSecretsTask) (known : TreeAnswer) (answer : Answer) → bound_of all ≡ known →
    AnswersBound all known answer → CompletesBound all (status_of answer)
completes all (IsBounded found) answer is (tells, (bits, least, e)) =
    let zero : status_of answer ≡ 0 = ap status_of e in
    record {
      known = omega (arith, zero);
      bounded = λ z. (found, is);
      done = λ has few. zero;
      more = λ has one. absurd (omega (arith, zero, one));
    }
completes all (IsUnclear bits why) answer is e =
    let one : status_of answer ≡ 1 = ap status_of e in
    record {
      known = omega (arith, one);
      bounded = λ z. absurd (omega (arith, one, z));
      done = λ has few. absurd (no-bound has.0 (sym is ∙ has.1));
      more = λ has o. absurd (no-bound has.0 (sym is ∙ has.1));
    }
  where
    no-bound : (found : Found) → IsUnclear bits why ≡ IsBounded found → ⊥
    no-bound found f = cc

pub bound_completes : (all : AllSecretsTask) (answer : Answer) → AnswersAllSecrets all answer →
    CompletesBound all (status_of answer)
bound_completes all answer (inl h) = completes all (bound_of all) answer refl h
bound_completes all answer (inr (bits, paths, e)) =
    let one : status_of answer ≡ 1 = ap status_of e in
    record {
      known = omega (arith, one);
      bounded = λ z. absurd (omega (arith, one, z));
      done = λ has few. absurd (few_not_many all answer few (bits, paths, e));
      more = λ has o. paths.more;
    }

-- The verdict of a run, turn by turn.
use Rattle.std.proofs.Common.{◌≡◌, ◌<◌, ℕ, suc, List, [], ◌∷◌, ◌++◌, length, Bool, Option, Some, None}
use Rattle.std.proofs.Common.{refl, ap, ap₂, sym, ◌∙◌, subst, arith, eq-eqb, ne_eqb}
use Rattle.std.specs.Prelude.{if◌then◌else◌, option_map}
use Rattle.rv32im_machine.specs.State.{State}
use Rattle.enclosure_regions.specs.declared.region_parts.Region.{Region}
use Rattle.region_machine.specs.Runs.{Real, real_turn}
use Rattle.lockstep_replay.specs.Crossing.{cross_after, crossing_of}
use Rattle.lockstep_replay.specs.Tasks.{Task, Limits, real_of, Cross}
use Rattle.taint_check.specs.declared.whys.TaintWhy.{TaintWhy}
use Rattle.taint_check.specs.declared.whys.TaintWhy.TheVariants.{TurnLimit, SecretLength}
use Rattle.taint_check.specs.Cleared.{Cleared, AreRunAnswers}
use Rattle.taint_check.specs.Reasons.{unclear_turned}
use Rattle.taint_check.specs.Tainted.{Finding, IsClean, IsUnclear, found, found_in, found_turn, found_within}
use Rattle.taint_check.specs.Tainted.{first_found, exit_of, IsVerdict}
use Rattle.taint_check.specs.Private.Tapes.{Tape}
use Rattle.taint_check.specs.Private.Turns.{Begins, Stands, MakesMasked, crossed_after}

-- a run with masks stands where the real run does, whatever the rules answer
pub cleared_place : (task : Task) (secret : List ℕ) (answers : List (List ℕ)) →
    (Cleared task secret answers).place ≡ real_of task secret (length answers)
unfolding Cleared Real
cleared_place task secret [] = refl
cleared_place task secret (last ∷ answers) =
    ap (λ place. real_turn task.enclosures place) (cleared_place task secret answers)

crossed_next : (task : Task) (secret : List ℕ) (answers : List (List ℕ)) →
    crossed_after task (Cleared task secret answers) (Cross task secret (length answers))
    ≡ Cross task secret (suc (length answers))
unfolding cross_after
crossed_next task secret answers =
    ap (λ place. Cross task secret (length answers) ++ crossing_of task.enclosures task.masks place)
    (cleared_place task secret answers)

-- nothing has been found in so many turns, after which machine and masks stand so
pub record IsGoing (table : ℕ) (task : Task) (limits : Limits) (secret : List ℕ) (turns : ℕ) (machine : State)
    (tape : Tape) : Type 0 where
  pub answers : List (List ℕ)
  pub are_answers : AreRunAnswers table task secret answers
  pub count : length answers ≡ turns
  pub stands : Stands task limits (Cleared task secret answers) (Cross task secret (length answers)) machine tape
  pub none : found task limits secret answers ≡ None

pub going_start : (table : ℕ) (task : Task) (limits : Limits) (secret : List ℕ) (machine : State) (tape : Tape)
    (regions : List Region) (skip : List ℕ) → Begins task limits secret machine tape regions skip →
    IsGoing table task limits secret 0 machine tape
unfolding Cleared AreRunAnswers found cross_after
going_start table task limits secret machine tape regions skip begins =
    record { answers = []; are_answers = tt; count = refl; stands = begins.stands; none = refl }

module _ (table : ℕ) (task : Task) (limits : Limits) (secret : List ℕ) (turns : ℕ) (machine : State) (tape : Tape)
    (going : IsGoing table task limits secret turns machine tape) (reached : State) (after : Tape)
    (why : Option TaintWhy)
    (makes : MakesMasked table task limits (Cleared task secret going.answers) (Cross task secret (length going.answers)) reached
    after why) where
  abbrev all : List (List ℕ)
  all = makes.answers ∷ going.answers

  abbrev crossed : List Bool
  crossed = Cross task secret (suc (length going.answers))

  all-answers : AreRunAnswers table task secret all
  unfolding AreRunAnswers
  all-answers = (going.are_answers, makes.are_answers)

  found-all : found task limits secret all ≡ found_turn why reached crossed
  unfolding found Cleared
  found-all =
      let now = found_in task limits secret makes.answers going.answers in
      let is : why ≡ unclear_turned task limits (length crossed) makes.answers (Cleared task secret going.answers) =
      makes.why_is ∙ ap (λ bits. unclear_turned task limits (length bits) makes.answers (Cleared task secret going.answers))
      (crossed_next task secret going.answers) in
      ap (λ f. first_found f now) going.none
      ∙ (ap (λ w. found_turn w (Cleared task secret all).place.state crossed) (sym is)
      ∙ ap (λ s. found_turn why s crossed) (sym makes.state))

  verdict-found : (finding : Finding) → found_turn why reached crossed ≡ Some finding → turns < limits.turns →
      length secret ≡ task.secret_length → IsVerdict table task limits secret finding
  verdict-found finding e below same = record {
    answers = all;
    are_answers = all-answers;
    within = omega (arith, going.count, below);
    reached = λ long none. absurd (apart (sym none ∙ (found-all ∙ e)));
    is = sym (ap (λ t. if t then found_within (found task limits secret all) limits.turns
        else IsUnclear (SecretLength task.secret_length (length secret)))
        (eq-eqb (length secret) task.secret_length same)
        ∙ ap (λ f. found_within f limits.turns) (found-all ∙ e));
  }
    where
      apart : None ≡ Some finding → ⊥
      apart none = cc

  -- a turn that is unclear
  pub verdict-unclear : (reason : TaintWhy) → why ≡ Some reason → turns < limits.turns →
      length secret ≡ task.secret_length → IsVerdict table task limits secret (IsUnclear reason)
  verdict-unclear reason e below same =
      verdict-found (IsUnclear reason) (ap (λ w. found_turn w reached crossed) e) below same

  -- clean where the run has exited
  abbrev clean-by : Option ℕ → Option Finding
  clean-by exit = option_map (λ status. IsClean crossed (record { bytes = reached.control.output; status = status })) exit

  -- the exit
  pub verdict-clean : (status : ℕ) → why ≡ None → exit_of reached.control.mode ≡ Some status → turns < limits.turns →
      length secret ≡ task.secret_length →
      IsVerdict table task limits secret
      (IsClean after.tally.stream.bits (record { bytes = reached.control.output; status = status }))
  verdict-clean status fine exits below same =
      let bits : after.tally.stream.bits ≡ crossed =
      (makes.next fine).bits ∙ crossed_next task secret going.answers in
      subst (λ b. IsVerdict table task limits secret
      (IsClean b (record { bytes = reached.control.output; status = status }))) (sym bits)
      (verdict-found (IsClean crossed (record { bytes = reached.control.output; status = status }))
      (ap (λ w. found_turn w reached crossed) fine ∙ ap (λ exit. clean-by exit) exits) below same)

  -- a turn in which nothing is found
  pub going-on : why ≡ None → exit_of reached.control.mode ≡ None →
      IsGoing table task limits secret (suc turns) reached after
  unfolding Cleared
  going-on fine runs = record {
    answers = all;
    are_answers = all-answers;
    count = omega (arith, going.count);
    stands = subst (λ bits. Stands task limits (Cleared task secret all) bits reached after)
        (crossed_next task secret going.answers) (makes.next fine);
    none = found-all ∙ (ap (λ w. found_turn w reached crossed) fine ∙ ap (λ exit. clean-by exit) runs);
  }

-- as many turns as may be made
pub verdict_limit : (table : ℕ) (task : Task) (limits : Limits) (secret : List ℕ) (turns limit : ℕ) (machine : State)
    (tape : Tape) → IsGoing table task limits secret turns machine tape → turns ≡ limits.turns → limit ≡ limits.turns →
    length secret ≡ task.secret_length → IsVerdict table task limits secret (IsUnclear (TurnLimit limit))
verdict_limit table task limits secret turns limit machine tape going all e same = record {
  answers = going.answers;
  are_answers = going.are_answers;
  within = omega (arith, going.count, all);
  reached = λ long none. going.count ∙ all;
  is = ap (λ n. IsUnclear (TurnLimit n)) e
      ∙ sym (ap (λ t. if t then found_within (found task limits secret going.answers) limits.turns
      else IsUnclear (SecretLength task.secret_length (length secret))) (eq-eqb (length secret) task.secret_length same)
      ∙ ap (λ f. found_within f limits.turns) going.none);
}

pub none_of : {A : Type 0} (found : Option A) → ((item : A) → found ≡ Some item → ⊥) → found ≡ None
none_of None h = refl
none_of (Some item) h = absurd (h item refl)

-- a secret of another length is unclear before the first turn
pub verdict_length : (table : ℕ) (task : Task) (limits : Limits) (secret : List ℕ) (cut got : ℕ) →
    cut ≡ task.secret_length → got ≡ length secret → (length secret ≡ task.secret_length → ⊥) →
    IsVerdict table task limits secret (IsUnclear (SecretLength cut got))
unfolding AreRunAnswers
verdict_length table task limits secret cut got c g other = record {
  answers = [];
  are_answers = tt;
  within = omega arith;
  reached = λ long none. absurd (other long);
  is = ap₂ (λ m n. IsUnclear (SecretLength m n)) c g
      ∙ sym (ap (λ t. if t then found_within (found task limits secret []) limits.turns
      else IsUnclear (SecretLength task.secret_length (length secret)))
      (ne_eqb (length secret) task.secret_length other));
}

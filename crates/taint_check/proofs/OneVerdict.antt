-- A check by a table that decides has one verdict: its turns are decided, and what a shorter run has found stays found.
use Rattle.std.proofs.Common.{◌≡◌, ℕ, suc, ◌<◌, ◌≤◌, Bool, true, false, List, [], ◌∷◌, length, Option, Some, None}
use Rattle.std.proofs.Common.{refl, sym, ap, ap₂, subst, ◌∙◌, arith, ⊎_elim}
use Rattle.std.specs.Prelude.{◌==◌, if◌then◌else◌}
use Rattle.std.proofs.lemmas.Bool.{cases_lt, eqb-true}
use Rattle.region_machine.specs.Breaking.{Breaks}
use Rattle.region_machine.specs.Runs.{real_turn}
use Rattle.rv32im_machine.specs.Folds.{real_end}
use Rattle.shadow_masks.specs.Writes.{LabelMap}
use Rattle.lockstep_replay.specs.Tasks.{Task, Limits, Cross}
use Rattle.taint_check.specs.declared.whys.TaintWhy.TheVariants.{SecretLength}
use Rattle.taint_check.specs.Cleared.{AnswersUnless, AreRunAnswers, Cleared, MaskedRun, is_hidden, kind_at, next_masked, walk_at}
use Rattle.taint_check.specs.Laws.{OneVerdict}
use Rattle.taint_check.specs.Reasons.{unclear_of, unclear_turned}
use Rattle.taint_check.specs.Tainted.{Finding, IsUnclear, IsVerdict, Tainted, first_found, found, found_in, found_turn}
use Rattle.taint_check.specs.Tainted.{found_within}
use Rattle.taint_check.proofs.DecidedMasks.{turns_are_decided}
use Rattle.transfer_rules.specs.Tables.{IsDeciding}

-- ---- one turn

-- what is found in the next turn of a run after so many
abbrev found_next : Task → Limits → List ℕ → ℕ → List ℕ → MaskedRun → Option Finding
found_next task limits secret turns answers run =
    found_turn (unclear_turned task limits (length (Cross task secret (suc turns))) answers run)
    (next_masked task answers run).place.state (Cross task secret (suc turns))

module _ (table : ℕ) (task : Task) (limits : Limits) (secret : List ℕ) (deciding : IsDeciding table) where
  abbrev AreNext : List ℕ → MaskedRun → Type 0
  AreNext answers run = AnswersUnless (is_hidden task.enclosures (kind_at task run)) table task answers run

  same_next : (run : MaskedRun) (a b : List ℕ) → AreNext a run → AreNext b run →
      next_masked task a run ≡ next_masked task b run
  same_next run a b by also =
      ap (λ (labels : LabelMap). record { place = real_turn task.enclosures run.place; labels = labels })
      (turns_are_decided table deciding (is_hidden task.enclosures (kind_at task run)) task a b run by also).labels_are

  same_why : (run : MaskedRun) (needed : ℕ) (a b : List ℕ) → AreNext a run → AreNext b run →
      unclear_turned task limits needed a run ≡ unclear_turned task limits needed b run
  same_why run needed a b by also =
      let same = turns_are_decided table deciding (is_hidden task.enclosures (kind_at task run)) task a b run by also in
      ap₂ (λ look left. unclear_of look (Breaks task.enclosures.regions run.place.state)
      (real_end (walk_at task run)).control.mode limits.budget needed left) same.looks_are same.left_are

  same_found_next : (run : MaskedRun) (turns : ℕ) (a b : List ℕ) → AreNext a run → AreNext b run →
      found_next task limits secret turns a run ≡ found_next task limits secret turns b run
  same_found_next run turns a b by also =
      ap (λ why. found_turn why (real_turn task.enclosures run.place).state (Cross task secret (suc turns)))
      (same_why run (length (Cross task secret (suc turns))) a b by also)

  -- ---- as many turns

  abbrev AreAll : List (List ℕ) → Type 0
  AreAll answers = AreRunAnswers table task secret answers

  same_run : (first second : List (List ℕ)) → length first ≡ length second → AreAll first → AreAll second →
      Cleared task secret first ≡ Cleared task secret second
  unfolding Cleared AreRunAnswers
  same_run [] [] as_long by also = refl
  same_run [] (b ∷ second) as_long by also = absurd (omega (arith, as_long))
  same_run (a ∷ first) [] as_long by also = absurd (omega (arith, as_long))
  same_run (a ∷ first) (b ∷ second) as_long by also =
      let before : Cleared task secret first ≡ Cleared task secret second =
      same_run first second (omega (arith, as_long)) by.0 also.0 in
      same_next (Cleared task secret first) a b by.1 (subst (AreNext b) (sym before) also.1)
      ∙ ap (next_masked task b) before

  same_found : (first second : List (List ℕ)) → length first ≡ length second → AreAll first → AreAll second →
      found task limits secret first ≡ found task limits secret second
  unfolding Cleared AreRunAnswers found
  same_found [] [] as_long by also = refl
  same_found [] (b ∷ second) as_long by also = absurd (omega (arith, as_long))
  same_found (a ∷ first) [] as_long by also = absurd (omega (arith, as_long))
  same_found (a ∷ first) (b ∷ second) as_long by also =
      let turns : length first ≡ length second = omega (arith, as_long) in
      let before : Cleared task secret first ≡ Cleared task secret second = same_run first second turns by.0 also.0 in
      let earlier : found task limits secret first ≡ found task limits secret second =
      same_found first second turns by.0 also.0 in
      let last : found_in task limits secret a first ≡ found_in task limits secret b second =
      same_found_next (Cleared task secret first) (length first) a b by.1 (subst (AreNext b) (sym before) also.1)
      ∙ ap₂ (λ count run. found_next task limits secret count b run) turns before in
      ap₂ first_found earlier last

  -- ---- more turns

  -- the first turns of a longer run, so many, and those that come later
  record HasBegun (turns : ℕ) (answers : List (List ℕ)) : Type 0 where
    first : List (List ℕ)
    are_answers : AreAll first
    counted : length first ≡ turns
    stays : (finding : Finding) → found task limits secret first ≡ Some finding →
        found task limits secret answers ≡ Some finding

  begun : (answers : List (List ℕ)) (turns : ℕ) → turns ≤ length answers → AreAll answers → HasBegun turns answers
  unfolding AreRunAnswers found
  begun [] turns few by =
      record { first = []; are_answers = by; counted = omega (arith, few); stays = λ finding is. is }
  begun (a ∷ answers) turns few by =
      ⊎_elim
      (λ (more : length answers < turns).
      record { first = a ∷ answers; are_answers = by; counted = omega (arith, few, more); stays = λ finding is. is })
      (λ (fewer : turns ≤ length answers).
      let go : HasBegun turns answers = begun answers turns fewer by.0 in
      record {
        first = go.first;
        are_answers = go.are_answers;
        counted = go.counted;
        stays = λ finding is. ap (λ f. first_found f (found_in task limits secret a answers)) (go.stays finding is);
      })
      (cases_lt (length answers) turns)

  -- ---- one verdict

  abbrev IsOurs : Finding → Type 0
  IsOurs finding = IsVerdict table task limits secret finding

  no_fewer : (one other : Finding) (first : IsOurs one) (second : IsOurs other) →
      length secret ≡ task.secret_length → length first.answers ≤ length second.answers →
      found task limits secret first.answers ≡ found task limits secret second.answers
  no_fewer one other first second long few = pick (found task limits secret first.answers) refl
    where
      pick : (finding : Option Finding) → found task limits secret first.answers ≡ finding →
          found task limits secret first.answers ≡ found task limits secret second.answers
      pick None is =
          let all : length first.answers ≡ limits.turns = first.reached long is in
          let most : length second.answers ≤ limits.turns = second.within in
          same_found first.answers second.answers (omega (arith, few, all, most)) first.are_answers second.are_answers
      pick (Some finding) is =
          let begin = begun second.answers (length first.answers) few second.are_answers in
          let same : found task limits secret first.answers ≡ found task limits secret begin.first =
          same_found first.answers begin.first (sym begin.counted) first.are_answers begin.are_answers in
          is ∙ sym (begin.stays finding (sym same ∙ is))

  found_once : (one other : Finding) (first : IsOurs one) (second : IsOurs other) →
      length secret ≡ task.secret_length →
      found task limits secret first.answers ≡ found task limits secret second.answers
  found_once one other first second long =
      ⊎_elim
      (λ (fewer : length first.answers < length second.answers).
      no_fewer one other first second long (omega (arith, fewer)))
      (λ (few : length second.answers ≤ length first.answers). sym (no_fewer other one second first long few))
      (cases_lt (length first.answers) (length second.answers))

  same_tainted : (one other : Finding) (first : IsOurs one) (second : IsOurs other) →
      Tainted task limits secret first.answers ≡ Tainted task limits secret second.answers
  same_tainted one other first second = pick (length secret == task.secret_length) refl
    where
      pick : (t : Bool) → (length secret == task.secret_length) ≡ t →
          (if t then found_within (found task limits secret first.answers) limits.turns
          else IsUnclear (SecretLength task.secret_length (length secret)))
          ≡ (if t then found_within (found task limits secret second.answers) limits.turns
          else IsUnclear (SecretLength task.secret_length (length secret)))
      pick true is =
          ap (λ f. found_within f limits.turns)
          (found_once one other first second (eqb-true (length secret) task.secret_length is))
      pick false is = refl

pub one_verdict : OneVerdict
one_verdict table task limits secret one other deciding first second =
    first.is ∙ (same_tainted table task limits secret deciding one other first second ∙ sym second.is)

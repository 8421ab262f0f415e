-- A clean run: nothing is found in any of its turns, and it has exited.
use Rattle.std.proofs.Common.{◌≡◌, ℕ, suc, ◌≤◌, List, [], ◌∷◌, length, Bool, true, false, Option, Some, None}
use Rattle.std.proofs.Common.{refl, sym, ap, ◌∙◌, arith}
use Rattle.std.specs.Prelude.{◌==◌, if◌then◌else◌, option_map}
use Rattle.std.proofs.lemmas.Bool.{eqb-true}
use Rattle.flow_base.specs.declared.outputs.Output.{Output}
use Rattle.rv32im_machine.specs.declared.stepping.Stepped.{Stepped}
use Rattle.rv32im_machine.specs.declared.stepping.Stepped.TheVariants.{Ran, Exited, Stopped}
use Rattle.rv32im_machine.specs.State.{State}
use Rattle.lockstep_replay.specs.Acceptance.{HasExited}
use Rattle.lockstep_replay.specs.Tasks.{Task, Limits, Cross}
use Rattle.taint_check.specs.declared.whys.TaintWhy.{TaintWhy}
use Rattle.taint_check.specs.declared.whys.TaintWhy.TheVariants.{SecretLength}
use Rattle.taint_check.specs.Cleared.{Cleared, AreRunAnswers}
use Rattle.taint_check.specs.Reasons.{unclear_turned}
use Rattle.taint_check.specs.Tainted.{Finding, IsClean, IsUnclear, IsVerdict, exit_of, found, found_in, found_turn}
use Rattle.taint_check.specs.Tainted.{found_within, first_found}

-- no turn has a reason
unfoldable pub AreFine : Task → Limits → List ℕ → List (List ℕ) → Type 0
AreFine task limits secret [] = Unit {0}
AreFine task limits secret (last ∷ answers) =
    AreFine task limits secret answers
    × (unclear_turned task limits (length (Cross task secret (suc (length answers)))) last (Cleared task secret answers)
    ≡ None)

-- the run on a secret, by sound answers, to its exit
pub record IsCleanRun (table : ℕ) (task : Task) (limits : Limits) (secret : List ℕ) (bits : List Bool)
    (output : Output) : Type 0 where
  pub last : List ℕ
  pub answers : List (List ℕ)
  pub are_answers : AreRunAnswers table task secret (last ∷ answers)
  pub fine : AreFine task limits secret (last ∷ answers)
  pub shorter : suc (length answers) ≤ limits.turns
  pub bits_are : bits ≡ Cross task secret (suc (length answers))
  pub exits : HasExited (Cleared task secret (last ∷ answers)).place.state output

-- ---- what is found in a turn

turn_none : (why : Option TaintWhy) (state : State) (cross : List Bool) → found_turn why state cross ≡ None →
    why ≡ None
turn_none None state cross e = refl
turn_none (Some why) state cross e = absurd (cc)

pub record IsExit (why : Option TaintWhy) (state : State) (cross bits : List Bool) (output : Output) : Type 0 where
  pub fine : why ≡ None
  pub bits_are : bits ≡ cross
  pub exits : HasExited state output

-- clean where the run has exited
abbrev clean_by : State → List Bool → Option ℕ → Option Finding
clean_by state cross exit =
    option_map (λ status. IsClean cross (record { bytes = state.control.output; status = status })) exit

mode_exit : (state : State) (cross bits : List Bool) (output : Output) (mode : Stepped) → state.control.mode ≡ mode →
    clean_by state cross (exit_of mode) ≡ Some (IsClean bits output) → IsExit None state cross bits output
mode_exit state cross bits output Ran is e = absurd (cc)
mode_exit state cross bits output (Stopped fault) is e = absurd (cc)
mode_exit state cross bits output (Exited status) is e =
    let made : Output = record { bytes = state.control.output; status = status } in
    let same : made ≡ output = cc in
    record {
      fine = refl;
      bits_are = cc;
      exits = record {
        bytes = ap (λ (o : Output). o.bytes) same;
        status = is ∙ ap (λ (o : Output). Exited o.status) same;
      };
    }

turn_exit : (why : Option TaintWhy) (state : State) (cross bits : List Bool) (output : Output) →
    found_turn why state cross ≡ Some (IsClean bits output) → IsExit why state cross bits output
turn_exit None state cross bits output e = mode_exit state cross bits output state.control.mode refl e
turn_exit (Some why) state cross bits output e = absurd (cc)

first_parts : (first later : Option Finding) → first_found first later ≡ None → (first ≡ None) × (later ≡ None)
first_parts None later e = (refl, e)
first_parts (Some finding) later e = absurd (cc)

-- ---- runs

none_fine : (task : Task) (limits : Limits) (secret : List ℕ) (answers : List (List ℕ)) →
    found task limits secret answers ≡ None → AreFine task limits secret answers
unfolding found AreFine
none_fine task limits secret [] e = tt
none_fine task limits secret (last ∷ answers) e =
    let parts = first_parts (found task limits secret answers) (found_in task limits secret last answers) e in
    (none_fine task limits secret answers parts.0, turn_none _ _ _ parts.1)

found_clean : (table : ℕ) (task : Task) (limits : Limits) (secret : List ℕ) (bits : List Bool) (output : Output)
    (answers : List (List ℕ)) → AreRunAnswers table task secret answers → length answers ≤ limits.turns →
    found task limits secret answers ≡ Some (IsClean bits output) → IsCleanRun table task limits secret bits output
unfolding found AreFine AreRunAnswers
found_clean table task limits secret bits output [] are short e = absurd (cc)
found_clean table task limits secret bits output (last ∷ answers) are short e =
    pick (λ clean. found_clean table task limits secret bits output answers are.0 (omega (arith, short)) clean)
    (found task limits secret answers) refl e
  where
    pick : (found task limits secret answers ≡ Some (IsClean bits output) →
        IsCleanRun table task limits secret bits output) → (before : Option Finding) →
        found task limits secret answers ≡ before →
        first_found before (found_in task limits secret last answers) ≡ Some (IsClean bits output) →
        IsCleanRun table task limits secret bits output
    pick earlier (Some finding) is clean = earlier (is ∙ clean)
    pick earlier None is clean =
        let exit = turn_exit _ (Cleared task secret (last ∷ answers)).place.state
        (Cross task secret (suc (length answers))) bits output clean in record {
          last = last;
          answers = answers;
          are_answers = are;
          fine = (none_fine task limits secret answers is, exit.fine);
          shorter = short;
          bits_are = exit.bits_are;
          exits = exit.exits;
        }

within_clean : (limit : ℕ) (bits : List Bool) (output : Output) (finding : Option Finding) →
    IsClean bits output ≡ found_within finding limit → finding ≡ Some (IsClean bits output)
within_clean limit bits output None e = absurd (cc)
within_clean limit bits output (Some finding) e = ap (λ f. Some f) (sym e)

-- a verdict that is clean is that of a clean run
pub clean_run : (table : ℕ) (task : Task) (limits : Limits) (secret : List ℕ) (bits : List Bool) (output : Output) →
    IsVerdict table task limits secret (IsClean bits output) →
    (length secret ≡ task.secret_length) × IsCleanRun table task limits secret bits output
clean_run table task limits secret bits output verdict =
    pick (length secret == task.secret_length) refl verdict.is
  where
    pick : (t : Bool) → (length secret == task.secret_length) ≡ t →
        IsClean bits output
        ≡ (if t then found_within (found task limits secret verdict.answers) limits.turns
        else IsUnclear (SecretLength task.secret_length (length secret))) →
        (length secret ≡ task.secret_length) × IsCleanRun table task limits secret bits output
    pick true is e = (
      eqb-true (length secret) task.secret_length is,
      found_clean table task limits secret bits output verdict.answers verdict.are_answers verdict.within
          (within_clean limits.turns bits output (found task limits secret verdict.answers) e),
    )
    pick false is e = absurd (cc)

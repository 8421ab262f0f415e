-- The verdict of a check with one machine: clean, or the first reason why it is unclear, by turn and within a turn in a
-- fixed order.
use Rattle.std.specs.Prelude.{◌≡◌, ℕ, suc, ◌==◌, ◌≤◌, List, [], ◌∷◌, length, Bool, Option, Some, None}
use Rattle.std.specs.Prelude.{if◌then◌else◌, option_map}
use Rattle.flow_base.specs.declared.outputs.Output.{Output}
use Rattle.rv32im_machine.specs.declared.stepping.Stepped.{Stepped}
use Rattle.rv32im_machine.specs.declared.stepping.Stepped.TheVariants.{Ran, Exited, Stopped}
use Rattle.rv32im_machine.specs.State.{State}
use Rattle.lockstep_replay.specs.Tasks.{Task, Limits, Cross}
use Rattle.taint_check.specs.declared.verdicts.TaintVerdict.{TaintVerdict}
use Rattle.taint_check.specs.declared.verdicts.TaintVerdict.TheVariants as verdict
use Rattle.taint_check.specs.declared.whys.TaintWhy.{TaintWhy}
use Rattle.taint_check.specs.declared.whys.TaintWhy.TheVariants.{TurnLimit, SecretLength}
use Rattle.taint_check.specs.Cleared.{Cleared, AreRunAnswers}
use Rattle.taint_check.specs.Reasons.{unclear_turned}

-- clean with these crossing bits and this output, or unclear
pub data Finding : Type 0 where
  IsClean : List Bool → Output → Finding
  IsUnclear : TaintWhy → Finding

-- the status with which a run has exited, if it has
abbrev pub exit_of : Stepped → Option ℕ
exit_of Ran = None
exit_of (Exited status) = Some status
exit_of (Stopped fault) = None

-- after a turn that has come to this state, with the crossing bits so far: without a reason clean where the run has
-- exited
abbrev pub found_turn : Option TaintWhy → State → List Bool → Option Finding
found_turn (Some why) state cross = Some (IsUnclear why)
found_turn None state cross =
    option_map (λ status. IsClean cross (record { bytes = state.control.output; status = status }))
    (exit_of state.control.mode)

abbrev pub first_found : Option Finding → Option Finding → Option Finding
first_found (Some finding) later = Some finding
first_found None later = later

-- in the turn after these, where the rules answer so
abbrev pub found_in : Task → Limits → List ℕ → List ℕ → List (List ℕ) → Option Finding
found_in task limits secret answers earlier =
    found_turn
    (unclear_turned task limits (length (Cross task secret (suc (length earlier)))) answers (Cleared task secret earlier))
    (Cleared task secret (answers ∷ earlier)).place.state (Cross task secret (suc (length earlier)))

-- the first finding in the turns for which the rules gave these answers, the latest turn first
unfoldable pub found : Task → Limits → List ℕ → List (List ℕ) → Option Finding
found task limits secret [] = None
found task limits secret (answers ∷ earlier) =
    first_found (found task limits secret earlier) (found_in task limits secret answers earlier)

-- the limit of turns comes after all of them
abbrev pub found_within : Option Finding → ℕ → Finding
found_within (Some finding) limit = finding
found_within None limit = IsUnclear (TurnLimit limit)

-- Tainted: the verdict on a secret, where the rules gave these answers
abbrev pub Tainted : Task → Limits → List ℕ → List (List ℕ) → Finding
Tainted task limits secret answers =
    if length secret == task.secret_length then found_within (found task limits secret answers) limits.turns
    else IsUnclear (SecretLength task.secret_length (length secret))

-- the verdict of a check by a book of this table
pub record IsVerdict (table : ℕ) (task : Task) (limits : Limits) (secret : List ℕ) (finding : Finding) : Type 0 where
  pub answers : List (List ℕ)
  pub are_answers : AreRunAnswers table task secret answers
  -- no more turns are made than the limit, and no fewer before something is found
  pub within : length answers ≤ limits.turns
  pub reached : length secret ≡ task.secret_length → found task limits secret answers ≡ None →
      length answers ≡ limits.turns
  pub is : finding ≡ Tainted task limits secret answers

-- the finding that a verdict shows
abbrev pub finding_of : TaintVerdict → Finding
finding_of (verdict.Clean bits output) = IsClean bits.bits output
finding_of (verdict.Unclear why) = IsUnclear why

-- What a bounded answer says of all pairs of a public input and a secret, from the law of one run; and of runs again and
-- again.
use Rattle.std.proofs.Common.{◌≡◌, ℕ, zero, suc, ◌^◌, ◌<◌, ◌≤◌, true, List, [], ◌∷◌, ◌++◌, length}
use Rattle.std.proofs.Common.{refl, sym, ap, subst, ◌∙◌}
use Rattle.std.specs.Prelude.{slice_index}
use Rattle.std.specs.List.{AllByRecursion}
use Rattle.crossing_bits.specs.Askers.{AllDifferent}
use Rattle.cut_file.specs.Cuts.{CutPicture, is_cut_picture}
use Rattle.elf32_loader.specs.Pictures.{Picture}
use Rattle.enclosure_regions.specs.declared.region_parts.Region.{Region}
use Rattle.flow_base.specs.declared.outputs.Output.{Output}
use Rattle.flow_base.specs.Words.{Agree}
use Rattle.lockstep_replay.specs.Acceptance.{Accept}
use Rattle.lockstep_replay.specs.Tasks.{Limits, Task, task_of}
use Rattle.rv32im_machine.specs.Start.{zeros}
use Rattle.acceptance_law.specs.MeasuredLaws.{AreInputs}
use Rattle.acceptance_law.proofs.AgreeOutsideMask.{agree_width}
use Rattle.acceptance_law.proofs.CoveredRunAccepted.{length_zeros, zero_bytes}
use Rattle.every_secret.specs.declared.public_inputs.PublicInput.TheVariants.{Any}
use Rattle.every_secret.specs.AllSecrets.{Gives, IsSecret}
use Rattle.every_secret.specs.AnyPublic.{AreRuns, AreSeenAs, IsHistory, IsPairGiven, IsPublic, IsRule, with_public}
use Rattle.every_secret.specs.Bounds.{BoundOf, Found, IsBounded, output_count}
use Rattle.every_secret.specs.Laws.{AllPairsLaw, RunLaw}
use Rattle.every_secret.specs.Listed.{IsListed}
use Rattle.every_secret.specs.Rules.{AreSoundRules, Rules, public_mask}
use Rattle.every_secret.proofs.EverySecret.{accepted, every, few_listed, within, words}
use Rattle.every_secret.proofs.Lists.{each_weaker}
use Rattle.every_secret.proofs.ListsOfOutputs.{AreListed, few_lists, power_of_power}

module _ (run : RunLaw) (rules : Rules) (program : Picture) (public_input : List ℕ) (regions : List Region)
    (cut : CutPicture) (limits : Limits) (found : Found) (any : rules.public ≡ Any) (sound : AreSoundRules rules)
    (inputs : AreInputs program public_input regions []) (valid : is_cut_picture cut ≡ true)
    (small : limits.budget < 4294967295)
    (answer : BoundOf rules (task_of program (zeros (length public_input)) regions cut) limits ≡ IsBounded found) where
  abbrev pub task : Task
  task = task_of program public_input regions cut

  abbrev seen : List ℕ
  seen = zeros (length public_input)

  -- the zeros stand for each public input of the length
  seen_as : (input : List ℕ) → IsPublic task input → AreSeenAs rules.public seen input
  seen_as input is = record {
    seen_bytes = zero_bytes (length public_input);
    bytes = is.bytes;
    has_length = is.has_length ∙ sym (length_zeros (length public_input));
    agree = λ index.
        subst (λ public. Agree (public_mask public) (slice_index input index) (slice_index seen index)) (sym any)
        (agree_width 8 255 (slice_index input index) (slice_index seen index) refl (is.bytes index)
        (zero_bytes (length public_input) index));
  }

  inputs_of : (input : List ℕ) → IsPublic task input → AreInputs program input regions []
  inputs_of input is = record {
    program_valid = inputs.program_valid;
    program_bytes = inputs.program_bytes;
    public_bytes = is.bytes;
    regions_valid = inputs.regions_valid;
    secret_bytes = inputs.secret_bytes;
  }

  pub accepted_pair : (input secret : List ℕ) (output : Output) → IsPublic task input →
      Gives (with_public task input) limits secret output →
      Accept (with_public task input) limits secret output × IsListed found.patterns output
  accepted_pair input secret output is gives =
      accepted run rules program seen regions cut limits found sound valid small answer input (seen_as input is)
      (inputs_of input is) secret output gives

  pub every_pair : regions ≡ [] → found.stopped ≡ 0 → (input secret : List ℕ) → IsPublic task input →
      IsSecret task secret → (output : Output) × Gives (with_public task input) limits secret output
  every_pair empty none input secret is is_secret =
      every run rules program seen regions cut limits found sound valid small answer input (seen_as input is)
      (inputs_of input is) empty none secret (record { bytes = is_secret.bytes; has_length = is_secret.has_length })

  pub few_pairs : (outputs : List Output) → AllDifferent outputs → AllByRecursion (IsPairGiven task limits) outputs →
      length outputs ≤ output_count found.patterns
  few_pairs =
      few_listed found.patterns (words run rules program seen regions cut limits found sound valid small answer)
      (IsPairGiven task limits)
      (λ output given. (accepted_pair given.input given.secret output given.is_public given.gives).1)

  -- ---- runs again and again

  module _ (rule : List Output → List ℕ) (is_rule : IsRule task rule) where
    runs_listed : (secret : List ℕ) (before outputs : List Output) →
        AreRuns task limits rule secret before outputs → AllByRecursion (IsListed found.patterns) outputs
    unfolding AreRuns
    runs_listed secret before [] runs = tt
    runs_listed secret before (output ∷ outputs) (gives, runs) = (
      (accepted_pair (rule before) secret output (is_rule.chooses before) gives).1,
      runs_listed secret (before ++ output ∷ []) outputs runs,
    )

    pub few_histories : (runs : ℕ) (lists : List (List Output)) → AllDifferent lists →
        AllByRecursion (IsHistory task limits rule runs) lists → length lists ≤ output_count found.patterns ^ runs
    few_histories runs lists different all =
        few_lists found.patterns (words run rules program seen regions cut limits found sound valid small answer) runs
        lists different
        (each_weaker (IsHistory task limits rule runs) (AreListed found.patterns runs)
        (λ outputs history. record {
          as_many = history.count;
          listed = runs_listed history.secret [] outputs history.are_runs;
        }) lists all)

    pub goes_on_runs : regions ≡ [] → found.stopped ≡ 0 → (runs : ℕ) (secret : List ℕ) → IsSecret task secret →
        (before : List Output) →
        (outputs : List Output) × ((length outputs ≡ runs) × AreRuns task limits rule secret before outputs)
    unfolding AreRuns
    goes_on_runs empty none zero secret is before = ([], (refl, tt))
    goes_on_runs empty none (suc runs) secret is before =
        let first = every_pair empty none (rule before) secret (is_rule.chooses before) is in
        let later = goes_on_runs empty none runs secret is (before ++ first.0 ∷ []) in
        (first.0 ∷ later.0, (ap suc later.1.0, (first.1, later.1.1)))

pub all_pairs : RunLaw → AllPairsLaw
all_pairs run rules program public_input regions cut limits found any sound inputs valid small answer = record {
  accepted = accepted_pair run rules program public_input regions cut limits found any sound inputs valid small answer;
  few = few_pairs run rules program public_input regions cut limits found any sound inputs valid small answer;
  within = within run rules program (zeros (length public_input)) regions cut limits found sound valid small answer;
  every = every_pair run rules program public_input regions cut limits found any sound inputs valid small answer;
  again = λ rule is_rule.
      few_histories run rules program public_input regions cut limits found any sound inputs valid small answer rule
      is_rule;
  bits_again = λ bits runs enough. power_of_power (output_count found.patterns) bits runs enough;
  goes_on = λ empty none rule is_rule runs secret is.
      goes_on_runs run rules program public_input regions cut limits found any sound inputs valid small answer rule is_rule
      empty none runs secret is [];
}

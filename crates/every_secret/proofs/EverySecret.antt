-- What a bounded answer says of all secrets, from the law of one run.
use Rattle.std.proofs.Common.{◌≡◌, ◌⊎◌, inl, inr, ℕ, zero, suc, ◌^◌, ◌≤◌, ◌<◌, Bool, true, false, List, [], length, Option, None}
use Rattle.std.proofs.Common.{refl, sym, ap, ap₂, subst, ◌∙◌, arith}
use Rattle.std.specs.Prelude.{◌==◌, if◌then◌else◌}
use Rattle.std.specs.List.{AllByRecursion}
use Rattle.crossing_bits.specs.Askers.{AllDifferent, Asker}
use Rattle.acceptance_law.specs.MeasuredLaws.{AreInputs}
use Rattle.acceptance_law.specs.Inputs.{AreBytes}
use Rattle.cut_file.specs.Cuts.{CutPicture, is_cut_picture}
use Rattle.elf32_loader.specs.Pictures.{Picture}
use Rattle.enclosure_regions.specs.declared.region_parts.Region.{Region}
use Rattle.flow_base.specs.declared.outputs.Output.{Output}
use Rattle.lockstep_replay.specs.Acceptance.{Accept, HasExited}
use Rattle.lockstep_replay.specs.Tasks.{Limits, Task, real_of, real_start, task_of}
use Rattle.region_machine.specs.Breaking.{Breaks, kind_break}
use Rattle.region_machine.specs.Enclosures.{Enclosures, kind_in, kind_within, region_numbered}
use Rattle.region_machine.specs.Runs.{Place, Real, turn_unless}
use Rattle.rv32im_machine.specs.declared.stepping.Stepped.{Stepped}
use Rattle.rv32im_machine.specs.declared.stepping.Stepped.TheVariants.{Ran, Exited, Stopped}
use Rattle.rv32im_machine.specs.State.{State}
use Rattle.masked_turns.proofs.CutNumbers.{small_masks}
use Rattle.every_secret.specs.declared.path_ends.PathEnd.{PathEnd}
use Rattle.every_secret.specs.declared.path_ends.PathEnd.TheVariants.{Exits, Stops, Unclear}
use Rattle.every_secret.specs.declared.patterns.Pattern.{Pattern}
use Rattle.every_secret.specs.declared.public_inputs.PublicInput.{PublicInput}
use Rattle.every_secret.specs.AllSecrets.{Gives, IsGiven, IsSecret}
use Rattle.every_secret.specs.AnyPublic.{AreSeenAs}
use Rattle.every_secret.specs.Bounds.{BoundOf, Found, IsBounded, nothing_found, output_count}
use Rattle.every_secret.specs.Laws.{AllSecretsLaw, Chooses, EndsPath, IsLost, RunLaw}
use Rattle.every_secret.specs.Listed.{IsListed, StandsFor}
use Rattle.every_secret.specs.Paths.{Paths, tree_of}
use Rattle.every_secret.specs.Replays.{MaskedReplay}
use Rattle.every_secret.specs.Rules.{AreSoundRules, Rules}
use Rattle.every_secret.proofs.JudgedPaths.{EndsInWords, AreJudged, Shows, all_judged, listed}
use Rattle.every_secret.proofs.PathWeights.{AllEnd, end_at, ends_from_paths, paths_from_ends, weight_of_paths}
use Rattle.every_secret.proofs.Lists.{each_weaker}
use Rattle.every_secret.proofs.PatternOutputs.{HasWords, few_outputs}
use Rattle.every_secret.proofs.Trees.{fed_descends}
use Rattle.every_secret.proofs.WalkWeights.{replay_weight}
use Rattle.every_secret.proofs.WalkWords.{replay_words}

-- ---- a run has one output, and with no region it breaks none

same_output : (state : State) (first second : Output) → HasExited state first → HasExited state second →
    first ≡ second
same_output state first second one two =
    let bytes : first.bytes ≡ second.bytes = sym one.bytes ∙ two.bytes in
    let ends : Exited first.status ≡ Exited second.status = sym one.status ∙ two.status in
    let status : first.status ≡ second.status = cc in
    ap₂ (λ written code. record { bytes = written; status = code }) bytes status

none_either : (zero_number : Bool) (found : Option Region) → found ≡ None →
    (if zero_number then None else found) ≡ None
none_either true found none = refl
none_either false found none = none

numbered_none : (number : ℕ) → region_numbered [] number ≡ None
numbered_none number = none_either (number == 0) None refl

breaks_none : (mode : Stepped) (number pc : ℕ) (state : State) →
    kind_break (kind_in mode [] (record state.control { mode = mode; region = number; pc = pc })) state ≡ None
breaks_none Ran number pc state = ap (λ region. kind_break (kind_within [] region pc) state) (numbered_none number)
breaks_none (Exited status) number pc state = refl
breaks_none (Stopped fault) number pc state = refl

never_breaks : (regions : List Region) (state : State) → regions ≡ [] → Breaks regions state ≡ None
never_breaks regions state none =
    ap (λ rs. Breaks rs state) none
    ∙ breaks_none state.control.mode state.control.region state.control.pc state

unbroken_after : (enclosures : Enclosures) (turns : ℕ) (place : Place) → enclosures.regions ≡ [] →
    place.broken ≡ None → (Real enclosures turns place).broken ≡ None
unfolding Real
unbroken_after enclosures zero place none whole = whole
unbroken_after enclosures (suc turns) place none whole =
    let before : Place = Real enclosures turns place in
    subst (λ broken. (turn_unless broken enclosures before).broken ≡ None)
    (sym (unbroken_after enclosures turns place none whole)) (never_breaks enclosures.regions before.state none)

-- ---- the law

module _ (run : RunLaw) (rules : Rules) (program : Picture) (seen : List ℕ) (regions : List Region) (cut : CutPicture)
    (limits : Limits) (found : Found) (sound : AreSoundRules rules) (valid : is_cut_picture cut ≡ true)
    (small : limits.budget < 4294967295)
    (answer : BoundOf rules (task_of program seen regions cut) limits ≡ IsBounded found) where
  abbrev pub walks : Asker PathEnd
  walks = MaskedReplay rules (task_of program seen regions cut) limits

  judges : AreJudged nothing_found found (Paths walks)
  judges = all_judged (Paths walks) nothing_found found answer

  shows : AllEnd (Shows found) (tree_of walks)
  shows = let all = judges in ends_from_paths (Shows found) (tree_of walks) all.shown

  pub within : output_count found.patterns ≤ 2 ^ limits.budget
  within =
      let all = judges in
      let few = all.counted in
      let weight = weight_of_paths (tree_of walks) in
      let room = replay_weight rules (task_of program seen regions cut) limits small in
      omega (arith, few, weight, room)

  pub words : AllByRecursion HasWords found.patterns
  words =
      let all = judges in
      all.words tt
      (paths_from_ends EndsInWords (tree_of walks)
      (replay_words rules (task_of program seen regions cut) limits (small_masks cut.points)))

  -- of a public input for which the one stands that is seen
  module _ (input : List ℕ) (public : AreSeenAs rules.public seen input) (inputs : AreInputs program input regions [])
    where
      abbrev pub task : Task
      task = task_of program input regions cut

      abbrev Choice : List ℕ → Type 0
      Choice secret = Chooses rules (task_of program seen regions cut) task limits secret

      path_shows : (secret : List ℕ) (choice : Choice secret) → Shows found choice.ends
      path_shows secret choice =
          end_at (Shows found) (tree_of walks) choice.bits (record { ends = choice.ends; rest = [] }) shows
          (fed_descends walks choice.bits choice.ends [] choice.uses)

      chosen : (secret : List ℕ) → IsSecret task secret → (real_of task secret limits.turns).broken ≡ None →
          Choice secret ⊎ IsLost task limits secret
      chosen secret is unbroken =
          run rules program seen input regions secret cut limits sound public (record {
            program_valid = inputs.program_valid;
            program_bytes = inputs.program_bytes;
            public_bytes = inputs.public_bytes;
            regions_valid = inputs.regions_valid;
            secret_bytes = is.bytes;
          }) valid small is unbroken

      accepted_at : (secret : List ℕ) (output : Output) → Gives task limits secret output → (e : PathEnd) →
          EndsPath task limits secret e → Shows found e → Accept task limits secret output × IsListed found.patterns output
      accepted_at secret output gives (Unclear why) alike shown = absurd shown
      accepted_at secret output gives (Stops stop) alike shown = absurd (alike output gives)
      accepted_at secret output gives (Exits pattern) alike shown =
          let same : alike.output ≡ output = same_output (real_of task secret limits.turns).state alike.output output
          alike.gives.exits gives.exits in (
            subst (λ o. Accept task limits secret o) same alike.accept,
            listed pattern output found.patterns shown (subst (λ o. StandsFor pattern o) same alike.stands),
          )

      pub accepted : (secret : List ℕ) (output : Output) → Gives task limits secret output →
          Accept task limits secret output × IsListed found.patterns output
      accepted secret output gives = elim (chosen secret gives.is_secret gives.unbroken) [
        | inl choice ↦ accepted_at secret output gives choice.ends choice.alike (path_shows secret choice)
        | inr lost ↦ absurd (lost.never output gives.exits)
      ]

      given_at : (secret : List ℕ) → found.stopped ≡ 0 → (e : PathEnd) → EndsPath task limits secret e → Shows found e →
          (output : Output) × Gives task limits secret output
      given_at secret none (Unclear why) alike shown = absurd shown
      given_at secret none (Stops stop) alike shown = absurd (omega (arith, none, shown))
      given_at secret none (Exits pattern) alike shown = (alike.output, alike.gives)

      pub every : regions ≡ [] → found.stopped ≡ 0 → (secret : List ℕ) → IsSecret task secret →
          (output : Output) × Gives task limits secret output
      every empty none secret is =
          let unbroken = unbroken_after task.enclosures limits.turns (real_start task secret) empty refl in
          elim (chosen secret is unbroken) [
            | inl choice ↦ given_at secret none choice.ends choice.alike (path_shows secret choice)
            | inr lost ↦ absurd (lost.lists empty)
          ]

-- outputs each of which is listed are few
pub few_listed : (patterns : List Pattern) → AllByRecursion HasWords patterns → (P : Output → Type 0) →
    ((output : Output) → P output → IsListed patterns output) → (outputs : List Output) → AllDifferent outputs →
    AllByRecursion P outputs → length outputs ≤ output_count patterns
few_listed patterns words P listed outputs different all =
    few_outputs patterns outputs words different (each_weaker P (IsListed patterns) listed outputs all)

-- a public input stands for itself
same_public : (public : PublicInput) (input : List ℕ) → AreBytes input → AreSeenAs public input input
same_public public input bytes = record {
  seen_bytes = bytes;
  bytes = bytes;
  has_length = refl;
  agree = λ index i clear. refl;
}

pub every_secret : RunLaw → AllSecretsLaw
every_secret run rules program public_input regions cut limits found sound inputs valid small answer =
    let public = same_public rules.public public_input inputs.public_bytes in record {
      accepted = accepted run rules program public_input regions cut limits found sound valid small answer public_input
          public inputs;
      few = few_listed found.patterns
          (words run rules program public_input regions cut limits found sound valid small answer)
          (IsGiven (task_of program public_input regions cut) limits)
          (λ output given.
          (accepted run rules program public_input regions cut limits found sound valid small answer public_input public
          inputs given.0 output given.1).1);
      within = within run rules program public_input regions cut limits found sound valid small answer;
      every = every run rules program public_input regions cut limits found sound valid small answer public_input public
          inputs;
    }

-- The law of all secrets, and what it stands on: the run of a secret and the path that it chooses.
use Rattle.std.specs.Prelude.{◌≡◌, ◌⊎◌, ℕ, ◌<◌, Bool, true, List, [], length, None}
use Rattle.crossing_bits.specs.Askers.{Fed', feed}
use Rattle.cut_file.specs.Cuts.{CutPicture, is_cut_picture}
use Rattle.elf32_loader.specs.Pictures.{Picture}
use Rattle.enclosure_regions.specs.declared.region_parts.Region.{Region}
use Rattle.flow_base.specs.declared.outputs.Output.{Output}
use Rattle.acceptance_law.specs.MeasuredLaws.{AreInputs}
use Rattle.rv32im_machine.specs.Start.{zeros}
use Rattle.lockstep_replay.specs.Acceptance.{Accept, HasExited}
use Rattle.lockstep_replay.specs.Tasks.{Limits, Task, real_of, task_of}
use Rattle.every_secret.specs.declared.path_ends.PathEnd.{PathEnd}
use Rattle.every_secret.specs.declared.path_ends.PathEnd.TheVariants.{Exits, Stops, Unclear}
use Rattle.every_secret.specs.declared.patterns.Pattern.{Pattern}
use Rattle.every_secret.specs.declared.public_inputs.PublicInput.TheVariants.{Any}
use Rattle.every_secret.specs.AllSecrets.{AreAll, Gives, IsSecret}
use Rattle.every_secret.specs.AnyPublic.{AreAllPairs, AreSeenAs}
use Rattle.every_secret.specs.Bounds.{BoundOf, Found, IsBounded}
use Rattle.every_secret.specs.Listed.{StandsFor}
use Rattle.every_secret.specs.Replays.{MaskedReplay}
use Rattle.every_secret.specs.Rules.{AreSoundRules, Rules}

-- the secret gives an output, with which it is accepted, and the pattern stands for it
pub record GivesAs (task : Task) (limits : Limits) (secret : List ℕ) (pattern : Pattern) : Type 0 where
  pub output : Output
  pub gives : Gives task limits secret output
  pub accept : Accept task limits secret output
  pub stands : StandsFor pattern output

-- what the run of a secret has to do with the end of the path that it chooses
abbrev pub EndsPath : Task → Limits → List ℕ → PathEnd → Type 0
EndsPath task limits secret (Unclear why) = Unit {0}
EndsPath task limits secret (Stops stop) = (output : Output) → ¬ Gives task limits secret output
EndsPath task limits secret (Exits pattern) = GivesAs task limits secret pattern

-- the path that the run of a secret chooses, where this task is walked
pub record Chooses (rules : Rules) (walked task : Task) (limits : Limits) (secret : List ℕ) : Type 0 where
  pub bits : List Bool
  pub ends : PathEnd
  pub uses : feed (MaskedReplay rules walked limits) bits ≡ Fed' ends []
  pub alike : EndsPath task limits secret ends

-- the run of a secret does not exit within the turns, and regions are listed: it may have gone into one that is skipped
pub record IsLost (task : Task) (limits : Limits) (secret : List ℕ) : Type 0 where
  pub lists : ¬ (task.enclosures.regions ≡ [])
  pub never : (output : Output) → ¬ HasExited (real_of task secret limits.turns).state output

-- The run of a secret that breaks no region chooses a path, or is lost. The public input is one of those for which the one
-- that is walked stands.
abbrev pub RunLaw : Type 0
RunLaw =
    (rules : Rules) (program : Picture) (seen public_input : List ℕ) (regions : List Region) (secret : List ℕ)
    (cut : CutPicture) (limits : Limits) → AreSoundRules rules → AreSeenAs rules.public seen public_input →
    AreInputs program public_input regions secret → is_cut_picture cut ≡ true → limits.budget < 4294967295 →
    IsSecret (task_of program public_input regions cut) secret →
    (real_of (task_of program public_input regions cut) secret limits.turns).broken ≡ None →
    Chooses rules (task_of program seen regions cut) (task_of program public_input regions cut) limits secret
    ⊎ IsLost (task_of program public_input regions cut) limits secret

-- Where the answer for a task is bounded, what is found tells of all secrets.
abbrev pub AllSecretsLaw : Type 0
AllSecretsLaw =
    (rules : Rules) (program : Picture) (public_input : List ℕ) (regions : List Region) (cut : CutPicture)
    (limits : Limits) (found : Found) → AreSoundRules rules → AreInputs program public_input regions [] →
    is_cut_picture cut ≡ true → limits.budget < 4294967295 →
    BoundOf rules (task_of program public_input regions cut) limits ≡ IsBounded found →
    AreAll (task_of program public_input regions cut) limits found

-- And where the public input is not known, it tells of all pairs of a public input and a secret.
abbrev pub AllPairsLaw : Type 0
AllPairsLaw =
    (rules : Rules) (program : Picture) (public_input : List ℕ) (regions : List Region) (cut : CutPicture)
    (limits : Limits) (found : Found) → rules.public ≡ Any → AreSoundRules rules →
    AreInputs program public_input regions [] → is_cut_picture cut ≡ true → limits.budget < 4294967295 →
    BoundOf rules (task_of program (zeros (length public_input)) regions cut) limits ≡ IsBounded found →
    AreAllPairs (task_of program public_input regions cut) limits found

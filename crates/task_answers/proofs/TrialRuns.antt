-- The run of a trial is that of its number.
use Rattle.std.proofs.Common.{◌≡◌, ◌∙◌, ℕ, List, [], ap}
use Rattle.elf32_loader.specs.Pictures.{Picture}
use Rattle.enclosure_regions.specs.declared.region_parts.Region.{Region}
use Rattle.trial_guests.specs.Programs.{picture_of_number}
use Rattle.trial_guests.specs.Secrets.{secret_of}
use Rattle.command_tasks.specs.Guests.{Guest}
use Rattle.command_tasks.specs.Tasks.{RunTask}
use Rattle.task_answers.specs.Trials.{guest_of_number, run_of_number, trial_turns}

abbrev made_guest : Picture → List ℕ → List Region → Guest
made_guest program public_input regions = record {
  program = program;
  public_input = public_input;
  regions = regions;
}

abbrev pub made_run : Guest → List ℕ → RunTask
made_run guest secret = record { guest = guest; secret = secret; settings = record { turns = trial_turns; table = 1 } }

pub guest_of_trial : (number : ℕ) (program : Picture) (public_input : List ℕ) (regions : List Region) →
    program ≡ picture_of_number number → public_input ≡ [] → regions ≡ [] →
    made_guest program public_input regions ≡ guest_of_number number
guest_of_trial number program public_input regions a b c =
    ap (λ v. made_guest v public_input regions) a
    ∙ (ap (λ v. made_guest (picture_of_number number) v regions) b
    ∙ ap (λ v. made_guest (picture_of_number number) [] v) c)

pub run_of_trial : (number : ℕ) (program : Picture) (public_input : List ℕ) (regions : List Region) (secret : List ℕ) →
    program ≡ picture_of_number number → public_input ≡ [] → regions ≡ [] → secret ≡ secret_of number →
    made_run (made_guest program public_input regions) secret ≡ run_of_number number
run_of_trial number program public_input regions secret a b c d =
    ap (λ v. made_run v secret) (guest_of_trial number program public_input regions a b c)
    ∙ ap (λ v. made_run (guest_of_number number) v) d

use Rattle.std.proofs.Common.{◌≡◌, ◌<◌, ℕ, List, [], true, arith, refl}
use Rattle.cut_file.specs.Cuts.{CutPicture, is_cut_picture}
use Rattle.cut_file.specs.Pictures.{cut_picture}
use Rattle.acceptance_law.specs.MeasuredLaws.{AreInputs}
use Rattle.elf32_loader.specs.Images.{image_picture}
use Rattle.elf32_loader.specs.Pictures.{Picture}
use Rattle.enclosure_regions.specs.declared.region_parts.Region.{Region}
use Rattle.lockstep_replay.specs.Tasks.{Limits, task_of}
use Rattle.every_secret.specs.declared.public_inputs.PublicInput.{PublicInput}
use Rattle.every_secret.specs.declared.public_inputs.PublicInput.TheVariants.{Given, Any}
use Rattle.every_secret.specs.AnyPublic.{TellsOf, seen_task}
use Rattle.every_secret.specs.Bounds.{TreeAnswer, BoundOf, IsBounded, IsUnclear}
use Rattle.every_secret.specs.Rules.{AreSoundRules, Rules}
use Rattle.every_secret.proofs.AllPairs.{all_pairs}
use Rattle.every_secret.proofs.EverySecret.{every_secret}
use Rattle.every_secret.proofs.SecretsChoose.{run_law}
use Rattle.every_secret.proofs.bounds.tell_bound.Goals as goal

-- no secret yet
none_yet : (program : Picture) (public_input : List ℕ) (regions : List Region) (secret : List ℕ) →
    AreInputs program public_input regions secret → AreInputs program public_input regions []
none_yet program public_input regions secret inputs = record {
  program_valid = inputs.program_valid;
  program_bytes = inputs.program_bytes;
  public_bytes = inputs.public_bytes;
  regions_valid = inputs.regions_valid;
  secret_bytes = λ index. omega arith;
}

tells : (public : PublicInput) (by : Rules) (program : Picture) (public_input : List ℕ) (regions : List Region)
    (secret : List ℕ) (cut : CutPicture) (limits : Limits) (answer : TreeAnswer) → AreSoundRules by → by.public ≡ public →
    AreInputs program public_input regions secret → is_cut_picture cut ≡ true → limits.budget < 4294967295 →
    BoundOf by (seen_task public (task_of program public_input regions cut)) limits ≡ answer →
    TellsOf public (task_of program public_input regions cut) limits answer
tells Given by program public_input regions secret cut limits (IsBounded found) sound known inputs valid small is =
    every_secret run_law by program public_input regions cut limits found sound
    (none_yet program public_input regions secret inputs) valid small is
tells Any by program public_input regions secret cut limits (IsBounded found) sound known inputs valid small is =
    all_pairs run_law by program public_input regions cut limits found known sound
    (none_yet program public_input regions secret inputs) valid small is
tells Given by program public_input regions secret cut limits (IsUnclear bits why) sound known inputs valid small is = tt
tells Any by program public_input regions secret cut limits (IsUnclear bits why) sound known inputs valid small is = tt

pub returns : goal.returns
returns c = λ by sound known.
    let task = task_of (image_picture c.args.image.now) c.args.public.now c.args.regions.now.items
    (cut_picture c.args.cut.now) in
    let limits : Limits = record { budget = c.args.budget; turns = c.args.turns } in
    tells c.args.known by (image_picture c.args.image.now) c.args.public.now c.args.regions.now.items _
    (cut_picture c.args.cut.now) limits (BoundOf by (seen_task c.args.known task) limits) sound known c.tell_inputs.ensures
    c.tell_cut.ensures c.requires refl

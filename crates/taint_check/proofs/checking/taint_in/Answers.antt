use Rattle.std.specs.Prelude.{◌≡◌, true, ℕ, List}
use Rattle.std.proofs.lemmas.Result.{IfOk-weaker}
use Rattle.cut_file.specs.Cuts.{CutPicture, is_cut_picture}
use Rattle.cut_file.specs.Pictures.{cut_picture}
use Rattle.elf32_loader.specs.Images.{image_picture}
use Rattle.elf32_loader.specs.Pictures.{Picture}
use Rattle.enclosure_regions.specs.declared.region_parts.Region.{Region}
use Rattle.acceptance_law.specs.MeasuredLaws.{AreInputs}
use Rattle.lockstep_replay.specs.LentTasks.{limits_in}
use Rattle.lockstep_replay.specs.Tasks.{Limits, task_of}
use Rattle.taint_check.specs.Laws.{IsAcceptedIfClean}
use Rattle.taint_check.specs.Tainted.{Finding, IsClean, IsUnclear, IsVerdict, finding_of}
use Rattle.taint_check.proofs.CleanSecrets.{clean_law}
use Rattle.taint_check.proofs.checking.taint_in.Goals as goal

accepted : (table : ℕ) (program : Picture) (public_input : List ℕ) (regions : List Region) (secret : List ℕ)
    (cut : CutPicture) (limits : Limits) (finding : Finding) → AreInputs program public_input regions secret →
    is_cut_picture cut ≡ true → IsVerdict table (task_of program public_input regions cut) limits secret finding →
    IsAcceptedIfClean (task_of program public_input regions cut) limits secret finding
accepted table program public_input regions secret cut limits (IsClean bits output) inputs valid verdict =
    clean_law table program public_input regions secret cut limits bits output inputs valid verdict
accepted table program public_input regions secret cut limits (IsUnclear why) inputs valid verdict = tt

pub returns-clause-accepted : goal.returns-clause-accepted
returns-clause-accepted g c =
    IfOk-weaker c.checked.result _ _
    (λ made is. accepted c.args.book.now.table (image_picture c.args.task.now.image.now) c.args.task.now.public.now
    c.args.task.now.regions.now.items c.args.secret.now (cut_picture c.args.task.now.cut.now)
    (limits_in c.args.task.now) (finding_of made.0) c.tell_inputs.ensures c.tell_cut.ensures is)
    c.checked.ensures

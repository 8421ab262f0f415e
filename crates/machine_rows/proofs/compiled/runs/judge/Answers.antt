use Rattle.std.proofs.Common.{ap, ◌∙◌}
use Rattle.elf32_loader.specs.Images.{image_picture}
use Rattle.cut_file.specs.Pictures.{cut_picture}
use Rattle.lockstep_replay.specs.Tasks.{task_of}
use Rattle.lockstep_replay.specs.Verdicts.{First}
use Rattle.machine_rows.specs.Runs.{limits}
use Rattle.machine_rows.proofs.compiled.runs.judge.Goals as goal

pub returns : goal.returns
returns c =
    c.run.ensures
    (task_of (image_picture c.args.image.now) c.args.public_input.now c.none-regions.result.items (cut_picture c.args.cut.now))
    limits c.args.secret.now c.in-Ok-new.ensures
    ∙ ap (λ regions. First
    (task_of (image_picture c.args.image.now) c.args.public_input.now regions (cut_picture c.args.cut.now)) limits
    c.args.secret.now) c.none-regions.ensures

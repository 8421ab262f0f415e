use Rattle.machine_rows.proofs.Options.{some_weaker}
use Rattle.elf32_loader.specs.Images.{image_picture}
use Rattle.cut_file.specs.Pictures.{cut_picture}
use Rattle.machine_rows.proofs.compiled.runs.verdict.Goals as goal

pub returns : goal.returns
returns c =
    some_weaker c.judge.result _ _
    (λ verdict. λ is. (
      image_picture c.in-Ok.image,
      cut_picture c.in-Ok-read_cut.cut,
      c.in-Ok.ensures.loaded,
      c.in-Ok-read_cut.ensures.text,
      rw c.in_ok-secret.ensures.same at rw c.in_ok-public_input.ensures.same at is,
    ))
    c.judge.ensures

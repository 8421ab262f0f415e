use Rattle.std.proofs.Common.{arith, sym}
use Rattle.elf32_loader.specs.Images.{image_picture}
use Rattle.rv32im_asm.specs.Assembling.{known_places, readings}
use Rattle.rv32im_asm.specs.Lines.{lines_of}
use Rattle.command_tasks.proofs.OneSegment.{one_segment_alone}
use Rattle.command_tasks.proofs.reading.read_source.Goals as goal

pub returns-clause-one : goal.returns-clause-one
returns-clause-one c =
    let lines = lines_of c.args.file.now in
    let alone = one_segment_alone (readings (known_places lines) lines 0 lines)
    (image_picture c.in_ok-assemble.field-0) (sym (rw c.as_slice.ensures at c.in_ok-assemble.ensures (λ e. cc))) in
    omega (arith, alone)

use Rattle.std.proofs.Common.{List, ap, arith, length}
use Rattle.elf32_loader.specs.declared.segments.Segment.{Segment}
use Rattle.elf32_loader.specs.Writing.{contents}
use Rattle.elf32_loader.proofs.Putting.{contents_fit}
use Rattle.elf32_loader.proofs.writing.write_image.Goals as goal

pub put_headers-requires : goal.put_headers-requires
put_headers-requires c =
    let image = c.args.image.now in
    let fit = contents_fit image.base image.segments image.ascends image.is_inside in
    let same = ap (λ (xs : List Segment). length (contents xs)) c.as_slice-segments.ensures in
    let count = ap (λ (xs : List Segment). length xs) c.as_slice-segments.ensures in
    omega (arith, fit, same, count)

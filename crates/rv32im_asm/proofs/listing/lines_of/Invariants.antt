use Rattle.std.proofs.Common.{◌≡◌, ◌++◌, IsTrue, length}
use Rattle.elf32_loader.specs.Segments.{are_inside}
use Rattle.rv32im_asm.specs.Listing.{listing}
use Rattle.rv32im_asm.proofs.listing.lines_of.Given as goal

abbrev pub invariant-loop-rest : goal.invariant-loop-rest
invariant-loop-rest l = record {
  inside : IsTrue (are_inside l.base l.rest);
  text : l.text.items ++ listing l.rest ≡ listing l.segments;
}

abbrev pub decreases-loop-rest : goal.decreases-loop-rest
decreases-loop-rest l = length l.rest

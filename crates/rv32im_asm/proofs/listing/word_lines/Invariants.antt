use Rattle.std.proofs.Common.{◌≡◌, ◌<◌, ◌+◌, ◌++◌, length}
use Rattle.rv32im_asm.specs.Listing.{lines_from}
use Rattle.rv32im_asm.proofs.listing.word_lines.Given as goal

abbrev pub invariant-loop-rest : goal.invariant-loop-rest
invariant-loop-rest l = record {
  fits : l.place + length l.rest < 4294967296;
  text : l.text.items ++ lines_from l.place l.rest ≡ lines_from l.address l.bytes;
}

abbrev pub decreases-loop-rest : goal.decreases-loop-rest
decreases-loop-rest l = length l.rest

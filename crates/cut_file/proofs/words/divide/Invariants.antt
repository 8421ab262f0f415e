use Rattle.std.proofs.Common.{◌≡◌, take, drop}
use Rattle.cut_file.specs.Private.Reading.{divided}
use Rattle.cut_file.proofs.Parts.{with_front}
use Rattle.cut_file.proofs.words.divide.Given as goal

abbrev pub invariant-loop-place : goal.invariant-loop-place
invariant-loop-place l = with_front (take l.place l.bytes) (divided l.separator
    (drop l.place l.bytes)) ≡ divided l.separator l.bytes

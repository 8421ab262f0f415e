use Rattle.std.proofs.Common.{◌≡◌, ◌≤◌, ◌+◌, length}
use Rattle.std.proofs.Common.{IsTrue}
use Rattle.cut_file.specs.Fronts.{is_front}
use Rattle.cut_file.specs.Fronts.Front.{Nothing}
use Rattle.cut_file.specs.Pictures.{front_of}
use Rattle.cut_file.specs.Private.Reading.{lines_in, parts}
use Rattle.cut_file.proofs.reading.lines.Given as goal

abbrev pub decreases-loop-text : goal.decreases-loop-text
decreases-loop-text l = length l.rest

abbrev pub invariant-loop-text : goal.invariant-loop-text
invariant-loop-text l = record {
  small : l.number + length l.rest ≤ length l.file + 1;
  ordered : IsTrue (is_front (front_of l.draft));
  same : lines_in l.number (front_of l.draft) (parts 10 l.rest) ≡ lines_in 1 Nothing (parts 10 l.file);
}

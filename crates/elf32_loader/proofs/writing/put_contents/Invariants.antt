use Rattle.std.proofs.Common.{◌≡◌, ◌++◌, drop}
use Rattle.elf32_loader.specs.Writing.{contents}
use Rattle.elf32_loader.proofs.writing.put_contents.Given as goal

abbrev pub invariant-loop-segment : goal.invariant-loop-segment
invariant-loop-segment l = l.file.items ++ contents (drop l.segment-index l.segments) ≡ l.initial.file.items ++ contents l.segments

use Rattle.std.proofs.Common.{◌≡◌, ◌+◌, ◌<◌, ◌^◌, ◌++◌, length, drop}
use Rattle.elf32_loader.specs.Writing.{contents, program_headers}
use Rattle.elf32_loader.proofs.writing.put_headers.Given as goal

abbrev pub invariant-loop-segment : goal.invariant-loop-segment
invariant-loop-segment l = record {
  built :
      l.file.items ++ program_headers l.place (drop l.segment-index l.segments)
      ≡ l.initial.file.items ++ program_headers l.offset l.segments;
  fits : l.place + length (contents (drop l.segment-index l.segments)) < 2 ^ 32;
}

use Rattle.std.proofs.Common.{length}
use Rattle.flow_certificate.specs.Private.Reading.{IsReading}
use Rattle.flow_certificate.proofs.reading.read_lines.Given as goal

abbrev pub invariant-loop-line : goal.invariant-loop-line
invariant-loop-line l = IsReading l.file l.rest l.draft l.number

abbrev pub decreases-loop-line : goal.decreases-loop-line
decreases-loop-line l = length l.rest

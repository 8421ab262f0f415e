use Rattle.std.proofs.Common.{◌≡◌, map, take}
use Rattle.flow_certificate.specs.Pictures.{inside_at}
use Rattle.flow_certificate.proofs.finishing.answers_of.Given as goal

abbrev pub invariant-loop-line : goal.invariant-loop-line
invariant-loop-line l = l.answers ≡ map inside_at (take l.line-index l.lines)

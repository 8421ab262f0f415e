use Rattle.std.proofs.Common.{◌≡◌, false, take}
use Rattle.std.specs.List.{list_any}
use Rattle.flow_certificate.specs.Verdicts.{is_across}
use Rattle.flow_certificate.proofs.across.first_across.Given as goal

abbrev pub invariant-loop-link : goal.invariant-loop-link
invariant-loop-link l = list_any (is_across l.certificate.graph l.certificate.solved)
    (take l.link-index l.certificate.graph.links) ≡ false

use Rattle.std.proofs.Common.{◌≡◌, ◌<◌, length, ◌∙◌, subst, true, arith}
use Rattle.std.proofs.lemmas.Bool.{ltb-true}
use Rattle.flow_graph.specs.Graphs.{is_origin}
use Rattle.flow_certificate.proofs.Sides.{second_half}
use Rattle.flow_certificate.proofs.across.has_source.Goals as goal

pub returns-in-Point : goal.returns-in-Point
returns-in-Point c =
    let t = c.args.certificate.now in
    let known = subst (λ end. is_origin (length t.graph.points) t.graph.relays end ≡ true) c.in-Point.is c.requires in
    let below : c.in-Point.index < length t.graph.points = ltb-true c.in-Point.index (length t.graph.points) known in
    let halves : length t.solved.side.points ≡ length t.graph.points = t.halves in
    rw c.in-Point.is (rw c.as_slice.ensures at c.has_second.ensures ∙ second_half t.solved.side.points
    c.in-Point.index _ (omega (arith, below, halves)))

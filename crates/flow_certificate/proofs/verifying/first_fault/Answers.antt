use Rattle.std.proofs.Common.{refl, sym, ◌∙◌}
use Rattle.flow_certificate.proofs.Verified.{verified_of}
use Rattle.flow_certificate.proofs.verifying.first_fault.Goals as goal

pub returns-then-from-cut-clause-none : goal.returns-then-from-cut-clause-none
returns-then-from-cut-clause-none c none =
    let t = c.args.certificate.now in
    verified_of t.graph t.solved t.point_flows t.link_flows t.halves t.relay_answers
    (c.in_default.ensures.none refl) (c.in_default-first_unbalanced.ensures.none refl)
    (c.in_default-first_across.ensures.none refl)
    (sym c.source_outflow-flow.ensures ∙ (sym c.if-from-flow.true ∙ c.from.ensures))
    (sym c.side_capacity-cut.ensures ∙ (sym c.if-from-cut.true ∙ c.from-then-from-flow.ensures))

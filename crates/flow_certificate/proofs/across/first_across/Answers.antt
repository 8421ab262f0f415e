use Rattle.std.proofs.Common.{◌<◌, length, sym, ◌∙◌}
use Rattle.flow_certificate.proofs.Sides.{first_link, none_across_more}
use Rattle.flow_certificate.proofs.across.first_across.Goals as goal

pub returns-then-is_leaving-clause-some : goal.returns-then-is_leaving-clause-some
returns-then-is_leaving-clause-some c =
    let t = c.args.certificate.now in
    let items = c.as_slice-link-items.ensures in
    let below : c.loop-link.link-index < length t.graph.links = rw items at c.loop-link-test.true in
    rw items (first_link t.graph t.solved c.loop-link.link-index _ below c.loop-link.invariant
    (sym (rw items at c.is_leaving.ensures) ∙ c.if-is_leaving.true))

pub loop-link-preserved : goal.loop-link-preserved
loop-link-preserved c =
    let t = c.args.certificate.now in
    let items = c.as_slice-link-items.ensures in
    let below : c.loop-link.link-index < length t.graph.links = rw items at c.loop-link-test.true in
    none_across_more t.graph t.solved c.loop-link.link-index _ below c.loop-link.invariant
    (sym (rw items at c.is_leaving.ensures) ∙ c.if-is_leaving.false)

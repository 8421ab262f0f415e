use Rattle.std.proofs.Common.{refl}
use Rattle.flow_certificate.proofs.Evenness.{first_unbalanced, none_unbalanced}
use Rattle.flow_certificate.proofs.balance.first_unbalanced.Goals as goal

pub returns-in-Some-clause-some : goal.returns-in-Some-clause-some
returns-in-Some-clause-some c =
    let t = c.args.certificate.now in
    first_unbalanced t.graph t.solved c.in-Some.number c.node_at.result
    (record { points_count = t.point_flows; links_count = t.link_flows }) c.in-Some.ensures.some
    (rw c.len-count.ensures at c.node_at.ensures.place) (rw c.len-count.ensures at c.node_at.ensures.known)

pub returns-in-None-clause-none : goal.returns-in-None-clause-none
returns-in-None-clause-none c none =
    let t = c.args.certificate.now in
    none_unbalanced t.graph t.solved (record { points_count = t.point_flows; links_count = t.link_flows })
    (c.in-None.ensures.none refl)

use Rattle.std.proofs.Common.{◌≡◌, ◌<◌, ◌≤◌, length, sym, ap, ◌∙◌, arith}
use Rattle.flow_certificate.specs.Private.Sides.{cut_below}
use Rattle.flow_certificate.proofs.SideCapacity.{cut_none, cut_step, cut_whole}
use Rattle.flow_certificate.proofs.values.side_capacity.Goals as goal

pub loop-i-init : goal.loop-i-init
loop-i-init c = record {
  sum = sym (cut_none c.args.certificate.now.graph c.args.certificate.now.solved);
  small = omega arith;
}

pub loop-i-preserved : goal.loop-i-preserved
loop-i-preserved c =
    let t = c.args.certificate.now in
    let below : c.loop-i.i < length t.graph.points = rw c.as_slice-node-items.ensures at c.loop-i-test.true in
    let step = cut_step t.graph t.solved c.loop-i.i c.loop-i.total c.part_of-total.result _ _ below t.halves
    t.nodes_are_named c.loop-i.invariant.sum c.loop-i.invariant.small
    (rw (c.as_slice-node-items.ensures, c.as_slice-halves.ensures) at c.part_of-total.ensures) in
    record { sum = step.sum; small = step.small }

pub returns : goal.returns
returns c =
    let t = c.args.certificate.now in
    let past : length t.graph.points ≤ c.loop-i.i = rw c.as_slice-node-items.ensures at c.loop-i-test.false in
    let within : c.loop-i.i ≤ length t.graph.points = rw c.as_slice-node-items.ensures at c.loop-i.auto.i-end in
    let end : c.loop-i.i ≡ length t.graph.points = omega (arith, past, within) in
    c.loop-i.invariant.sum ∙ (ap (cut_below t.graph t.solved) end ∙ cut_whole t.graph t.solved t.halves)

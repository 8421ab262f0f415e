use Rattle.std.proofs.Common.{◌≤◌, ◌<◌, length, sym, ◌∙◌, arith}
use Rattle.std.proofs.lemmas.List.{get_or_default}
use Rattle.max_flow.specs.Private.Balances.{AreBalanced, AreSums}
use Rattle.max_flow.specs.Private.Solving.{net_of}
use Rattle.max_flow.proofs.Balances.{IsLookedOver, looked_over}
use Rattle.max_flow.proofs.feasible.value_of_flow.Goals as goal

pub returns : goal.returns
returns c =
    let into : AreSums c.args.network.now.heads.items c.args.flows.now (length c.args.network.now.heads.items)
    c.in-Some.into.items = rw c.deref-2.ensures.value at (rw c.in-Some.is at c.in_ok-into.ensures.sums) in
    let out : AreSums c.args.network.now.tails.items c.args.flows.now (length c.args.network.now.tails.items)
    c.in-Some-2.out.items = rw c.deref-3.ensures.value at (rw c.in-Some-2.is at c.in_ok-out.ensures.sums) in
    let into_count = rw c.in-Some.is at c.in_ok-into.ensures.count in
    let out_count = rw c.in-Some-2.is at c.in_ok-out.ensures.count in
    let balanced : AreBalanced c.in-Some.into.items c.in-Some-2.out.items =
    rw (c.deref-4.ensures.value, c.deref-5.ensures.value) at
    (c.are_balanced.ensures c.if-not-are_balanced.false) in
    let some : 2 ≤ c.args.network.now.nodes = c.requires.net.some in
    let filled : 0 < length c.in-Some-2.out.items = omega (arith, some, out_count, c.nodes-2.ensures) in
    let looked : IsLookedOver (net_of c.args.network.now) c.args.flows.now c.in-Some.into.items c.in-Some-2.out.items
    c.index-value.result.now = record {
      count = omega (arith, c.if-flows-edges.false, c.edges.ensures);
      within = rw c.deref.ensures.value at (c.are_within.ensures c.if-not-are_within.false);
      into_count = into_count ∙ c.nodes.ensures;
      out_count = out_count ∙ c.nodes-2.ensures;
      into_sums = into;
      out_sums = out;
      balanced = balanced;
      value_is = get_or_default c.in-Some-2.out.items 0 0 c.index-value.result.now filled ∙ sym c.index-value.ensures;
      most = c.are_at_most.ensures c.if-not-are_at_most.false;
      fits = λ i. omega (arith, c.type_inv.flows i);
    } in
    looked_over (net_of c.args.network.now) c.args.flows.now c.in-Some.into.items c.in-Some-2.out.items
    c.index-value.result.now c.requires.net looked

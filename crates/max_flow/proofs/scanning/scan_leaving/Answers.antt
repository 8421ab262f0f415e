use Rattle.std.proofs.Common.{◌≡◌, ◌<◌, ◌-◌, length, slice_index, ap, ◌∙◌, arith}
use Rattle.max_flow.specs.Private.Solving.{net_of}
use Rattle.max_flow.proofs.SearchSteps.{grown_on}
use Rattle.max_flow.proofs.ScannedQueueIsClosed.{reaches_head, left_next}
use Rattle.max_flow.proofs.scanning.scan_leaving.Goals as goal

pub reach-requires-clause-arc : goal.reach-requires-clause-arc
reach-requires-clause-arc c =
    let some : 0 < c.loop-cursor.cursor = omega arith in
    record {
      from_inside = c.requires.inside;
      to_inside = rw c.head.ensures (c.requires.network.net.heads_inside (c.loop-cursor.cursor - 1) (omega arith));
      reaches = λ none. rw c.head.ensures
          (reaches_head (net_of c.args.network.now) c.args.flows.now c.loop-cursor.tree.places.items c.args.at
          (c.loop-cursor.cursor - 1) c.saturating_sub.result
          c.requires.network.net c.requires.inside (let k : slice_index c.loop-cursor.tree.places.items c.args.at ≡
          slice_index c.args.tree.now.places.items c.args.at = c.loop-cursor.invariant.grown.kept c.args.at
          c.requires.found in omega (arith, k, c.requires.found)) (omega arith) (c.loop-cursor.invariant.here some)
          (c.saturating_sub.ensures ∙ ap (λ n. n - slice_index c.args.flows.now (c.loop-cursor.cursor - 1))
          c.limit.ensures));
    }

pub loop-cursor-preserved : goal.loop-cursor-preserved
loop-cursor-preserved c =
    let some : 0 < c.loop-cursor.cursor = omega arith in
    let step = left_next (net_of c.args.network.now) c.args.flows.now c.loop-cursor.tree.places.items
    (length c.loop-cursor.tree.queue.items) c.reach.new.tree.places.items (length c.reach.new.tree.queue.items)
    c.args.at c.loop-cursor.cursor c.args.network.now.leaving.first.items c.args.network.now.leaving.next.items
    c.before-cursor.result c.head.result c.saturating_sub.result
    c.requires.network.leaving c.loop-cursor.invariant.left some c.loop-cursor.invariant.within
    (c.loop-cursor.invariant.here some) c.in_ok-reach.ensures.grown c.before-cursor.ensures
    c.head.ensures (c.saturating_sub.ensures ∙
    ap (λ n. n - slice_index c.args.flows.now (c.loop-cursor.cursor - 1)) c.limit.ensures)
    c.in_ok-reach.ensures.found in
    record {
      tree = c.in_ok-reach.ensures.tree;
      grown = grown_on c.args.tree.now.places.items (length c.args.tree.now.queue.items)
          c.loop-cursor.tree.places.items (length c.loop-cursor.tree.queue.items)
          c.reach.new.tree.places.items (length c.reach.new.tree.queue.items) c.loop-cursor.invariant.grown
          c.in_ok-reach.ensures.grown;
      left = step.0;
      within = step.1;
      here = step.2;
    }

use Rattle.std.proofs.Common.{◌^◌, ◌<◌, ◌++◌, ◌∷◌, [], ap, ◌∙◌, arith}
use Rattle.max_flow.specs.Building.{tail_of, head_of}
use Rattle.max_flow.proofs.Graphs.{few_at, map_more}
use Rattle.max_flow.proofs.building.push_ends.Goals as goal

pub loop-link-preserved : goal.loop-link-preserved
loop-link-preserved c = record {
  tails = map_more (λ link. tail_of c.args.count link.source) c.args.links.now _ _ _ c.loop-link.link-index _
      c.loop-link-test.true c.loop-link.invariant.tails
      (c.in_ok-push.ensures.ok ∙ ap (λ n. c.loop-link.ends.tails ++ n ∷ []) c.tail_number.ensures);
  heads = map_more (λ link. head_of c.args.count link.target) c.args.links.now _ _ _ c.loop-link.link-index _
      c.loop-link-test.true c.loop-link.invariant.heads
      (c.in_ok-push-2.ensures.ok ∙ ap (λ n. c.loop-link.ends.heads ++ n ∷ []) c.head_number.ensures);
}

pub overflow_cast-tail_number : goal.overflow_cast-tail_number
overflow_cast-tail_number c =
    let small : c.tail_number.result < 2 ^ 32 = few_at (λ link. tail_of c.args.count link.source) c.args.links.now
    c.loop-link.link-index _ c.tail_number.result c.loop-link-test.true c.requires.tails c.tail_number.ensures in
    omega (arith, small)

pub overflow_cast-head_number : goal.overflow_cast-head_number
overflow_cast-head_number c =
    let small : c.head_number.result < 2 ^ 32 = few_at (λ link. head_of c.args.count link.target) c.args.links.now
    c.loop-link.link-index _ c.head_number.result c.loop-link-test.true c.requires.heads c.head_number.ensures in
    omega (arith, small)

use Rattle.std.proofs.Common.{arith}
use Rattle.shadow_masks.proofs.few_points.FewPoints.number_of.Goals as goal

pub invariant_of-self : goal.invariant_of-self
invariant_of-self c = (
  c.self.invariant.0,
  grind (c.push.ensures.len, c.push.ensures.items, c.match-push.branch, c.len.ensures, c.if-len-lt256.true, arith),
  λ place. grind (c.push.ensures.len, c.push.ensures.items, c.match-push.branch, c.self.invariant.2 place, arith),
)

pub returns-after-push-clause-kept : goal.returns-after-push-clause-kept
returns-after-push-clause-kept c place inside =
    grind (c.push.ensures.items, c.match-push.branch, c.self.invariant.2 place, c.self.view_is, inside, arith)

use Rattle.std.proofs.Common.{◌+◌, length, refl, ap, ◌∙◌, rules}
use Rattle.std.proofs.lemmas.List.{length_push}
use Rattle.max_flow.specs.Private.Sides.{found_marks}
use Rattle.max_flow.proofs.FoundNodesAreMembers.{marks_push, found_more}
use Rattle.max_flow.proofs.sides.found_halves.Goals as goal

pub loop-i-init : goal.loop-i-init
unfolding found_marks
loop-i-init c = search rules

pub loop-i-preserved : goal.loop-i-preserved
loop-i-preserved c = record {
  count = ap length c.in_ok-push.ensures.ok ∙ (length_push c.loop-i.halves c.half_of-half.result ∙ ap (λ n. n + 1)
      c.loop-i.invariant.count);
  marks = rw (
    c.in_ok-push.ensures.ok,
    marks_push,
    c.loop-i.invariant.marks,
    c.half_of-half.ensures.first,
    c.half_of-half.ensures.second,
    found_more,
  ) refl;
}

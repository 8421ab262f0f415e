use Rattle.std.proofs.Common.{◌+◌, ◌∙◌, arith, take}
use Rattle.kept_states.specs.Keeping.{mask_byte}
use Rattle.kept_states.proofs.Masks.{all_masks}
use Rattle.kept_states.proofs.Settled.{all_done, below_pages}
use Rattle.kept_states.proofs.settling.settle_masks.Goals as goal

pub loop-page-preserved : goal.loop-page-preserved
loop-page-preserved c =
    let seen = c.next_set-in-loop-page in
    let next = c.next_page-page-in-loop-page in
    record {
      done = c.in_ok-done.ensures.done;
      most = omega (arith, next.ensures.most, seen.ensures.most);
      below = below_pages c.args.pieces.now (take c.in_ok-done.done c.args.laids.now) (c.loop-page.page + 1) next.result
          seen.result (mask_byte c.settle_mask_page.new.shadow) next.ensures.from next.ensures.most seen.ensures.zeros
          c.in_ok-done.ensures.below;
      begins = c.settle_mask_page.ensures.begins ∙ c.loop-page.invariant.begins;
    }

pub returns-clause-masks : goal.returns-clause-masks
returns-clause-masks c same =
    all_masks c.args.pieces.now c.args.laids.now c.loop-page.shadow
    (all_done c.args.pieces.now c.args.laids.now c.loop-page.done c.loop-page.page (mask_byte c.loop-page.shadow)
    (omega (arith, c.loop-page-test.false)) c.loop-page.invariant.most same c.loop-page.invariant.below)
    c.tell_outside.ensures.below c.tell_outside.ensures.above

use Rattle.std.proofs.Common.{◌+◌, arith}
use Rattle.kept_states.specs.Keeping.{mask_byte}
use Rattle.kept_states.proofs.Growing.{grows_trans}
use Rattle.kept_states.proofs.Settled.{below_pages}
use Rattle.kept_states.proofs.laying.lay_masks.Goals as goal

pub loop-page-preserved : goal.loop-page-preserved
loop-page-preserved c =
    let next = c.next_set-page-in-loop-page in
    record {
      most = next.ensures.most;
      laid = below_pages c.lay_mask_page.new.pieces c.lay_mask_page.new.laids.items (c.loop-page.page + 1) next.result next.result
          (mask_byte c.args.shadow.now) next.ensures.from (omega arith) next.ensures.zeros
          c.in_ok-lay_mask_page.ensures.laid;
      grows = grows_trans c.args.pieces.now c.loop-page.pieces c.lay_mask_page.new.pieces c.loop-page.invariant.grows
          c.in_ok-lay_mask_page.ensures.grows;
    }

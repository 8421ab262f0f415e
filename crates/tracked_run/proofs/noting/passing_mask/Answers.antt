use Rattle.tracked_run.specs.Labels.{masks_in_order}
use Rattle.tracked_run.proofs.ByteMasks.{aimed_byte, may_make, worked_byte}
use Rattle.tracked_run.proofs.noting.passing_mask.Goals as goal

pub work_mask-mask-requires : goal.work_mask-mask-requires
work_mask-mask-requires g c =
    may_make c.args.passing.now.work c.args.passing.now.sources c.masks_of_sources-masks.result c.requires.joins
    c.masks_of_sources-masks.ensures.bytes

pub returns-clause-byte : goal.returns-clause-byte
returns-clause-byte g c =
    let passing = c.args.passing.now in
    rw c.aimed_mask.ensures
    (aimed_byte passing.aim passing.point.slot c.work_mask-mask.result
    (λ narrow. rw c.work_mask-mask.ensures
    (worked_byte passing.point.slot passing.work passing.sources (masks_in_order c.masks_of_sources-masks.result)
    c.answer_of-answer.result c.requires.byte c.masks_of_sources-masks.ensures.byte narrow)))

use Rattle.std.proofs.Common.{ap, ◌∙◌}
use Rattle.run_labels.specs.Masks.{masks_of}
use Rattle.tracked_run.specs.Labels.{labels_of, masks_in_order}
use Rattle.tracked_run.proofs.ByteMasks.{may_make, worked_byte}
use Rattle.masked_turns.specs.Clearing.{aimed_mask}
use Rattle.masked_turns.proofs.NarrowMasks.{aimed_byte}
use Rattle.every_secret.proofs.Ruled.{work_ruled}
use Rattle.every_secret.proofs.visits.passing_mask.Goals as goal

pub returns-clause-mask : goal.returns-clause-mask
returns-clause-mask g c = λ rules answers.
    let passing = c.args.passing in
    c.aimed_mask.ensures
    ∙ ap (λ made. aimed_mask c.args.skipped passing.aim passing.point.slot made)
    (c.work_mask-made.ensures ∙ work_ruled c.args.book.now.table rules answers passing.work c.masks_of_sources-masks.result
    (masks_of (labels_of c.args.shadow.now c.args.held) passing.sources) c.masks_of_sources-masks.ensures.masks
    c.answer_of-answer.result c.answer_of-answer.ensures.table)

pub work_mask-made-requires : goal.work_mask-made-requires
work_mask-made-requires g c =
    may_make c.args.passing.work c.args.passing.sources c.masks_of_sources-masks.result c.requires.joins
    c.masks_of_sources-masks.ensures.bytes

pub returns-clause-byte : goal.returns-clause-byte
returns-clause-byte g c =
    let passing = c.args.passing in
    rw c.aimed_mask.ensures
    (aimed_byte c.args.skipped passing.aim passing.point.slot c.work_mask-made.result
    (λ narrow. rw c.work_mask-made.ensures
    (worked_byte passing.point.slot passing.work passing.sources (masks_in_order c.masks_of_sources-masks.result)
    c.answer_of-answer.result c.requires.byte c.masks_of_sources-masks.ensures.byte narrow)))

use Rattle.std.proofs.Common.{◌≡◌, ◌≤◌, arith, ap, ◌∙◌}
use Rattle.flow_base.specs.Points.{nowhere}
use Rattle.shadow_masks.specs.Pages.{label_of}
use Rattle.run_labels.specs.Answers.{IsSoundAnswer, IsTableAnswer}
use Rattle.run_labels.specs.Masks.{masks_of}
use Rattle.run_labels.specs.TurnLabels.{aim_label}
use Rattle.tracked_run.specs.Labels.{labels_of, masks_in_order}
use Rattle.tracked_run.proofs.ByteMasks.{mask_for, may_make, worked_byte}
use Rattle.masked_turns.specs.Clearing.{aimed_mask, left_mask, uncrossed}
use Rattle.masked_turns.proofs.NarrowMasks.{aimed_byte, holds_same, work_same}
use Rattle.masked_turns.proofs.clearing.note_cleared.Goals as goal

pub work_mask-made-requires : goal.work_mask-made-requires
work_mask-made-requires g c =
    may_make c.args.passing.work c.args.passing.sources c.masks_of_sources-masks.result c.requires.joins
    c.masks_of_sources-masks.ensures.bytes

pub put_aimed-requires-clause-fits : goal.put_aimed-requires-clause-fits
put_aimed-requires-clause-fits g c =
    let passing = c.args.passing in
    rw c.labelled.ensures.mask
    (mask_for passing.aim passing.point.slot c.uncrossed-mask.result c.requires.fits
    (λ narrow.
    let whole : c.aimed_mask.result ≤ 255 =
    rw c.aimed_mask.ensures
    (aimed_byte c.args.skipped passing.aim passing.point.slot c.work_mask-made.result
    (λ byte. rw c.work_mask-made.ensures
    (worked_byte passing.point.slot passing.work passing.sources (masks_in_order c.masks_of_sources-masks.result)
    c.answer_of-answer.result c.requires.byte c.masks_of_sources-masks.ensures.byte byte)) narrow) in
    omega (arith, whole, c.uncrossed-mask.ensures.below)))

pub returns-clause-notes : goal.returns-clause-notes
returns-clause-notes g c =
    let passing = c.args.passing in
    let labels = labels_of c.args.shadow.now c.args.held.now in
    let masks = c.masks_of_sources-masks.result in
    let list = masks_of labels passing.sources in
    let answer = c.answer_of-answer.result in
    let mask_is : c.uncrossed-mask.result ≡ left_mask c.args.skipped c.args.crossing labels answer passing =
    c.uncrossed-mask.ensures.uncrossed
    ∙ ap (λ mask. uncrossed mask c.args.crossing)
    (c.aimed_mask.ensures
    ∙ ap (λ made. aimed_mask c.args.skipped passing.aim passing.point.slot made)
    (c.work_mask-made.ensures ∙ work_same passing.work masks list answer c.masks_of_sources-masks.ensures.masks)) in
    record {
      answer = answer;
      sound = holds_same IsSoundAnswer passing.work masks list answer c.masks_of_sources-masks.ensures.masks
          c.answer_of-answer.ensures.sound;
      by_table = holds_same (IsTableAnswer c.args.book.now.table) passing.work masks list answer
          c.masks_of_sources-masks.ensures.masks c.answer_of-answer.ensures.table;
      mask_is = mask_is;
      labels = c.in_ok-put_aimed.ensures.put
          ∙ ap (λ label. aim_label passing.aim label labels)
          (c.labelled.ensures.label ∙ ap (λ mask. label_of mask nowhere) mask_is);
    }

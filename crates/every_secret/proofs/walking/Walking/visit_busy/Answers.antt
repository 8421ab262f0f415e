use Rattle.std.proofs.Common.{refl, ap, ◌∙◌, ◌∷◌, arith}
use Rattle.tracked_run.specs.Labels.{labels_of}
use Rattle.tracked_run.proofs.ByteMasks.{mask_for}
use Rattle.run_labels.specs.TurnLabels.{aim_label}
use Rattle.every_secret.specs.Masked.{unclear_by_left}
use Rattle.every_secret.specs.Private.Tapes.{ruling_of, tape_of}
use Rattle.every_secret.proofs.Nodes.{masks-passed}
use Rattle.every_secret.proofs.OneVisit.{fits_shown, put_width, visited}
use Rattle.every_secret.proofs.walking.Walking.visit_busy.Goals as goal

pub returns-clause-width : goal.returns-clause-width
returns-clause-width g c =
    put_width c.args.passing c.passing_mask-mask.result c.next-crossing.result c.in_ok-value.value _ c.requires.value
    c.next-crossing.ensures.width c.in_ok-value.ensures.value

pub returns-clause-goes : goal.returns-clause-goes
returns-clause-goes g c = λ clear go out after masks past ahead.
    let self = c.args.self.now in
    let passing = c.args.passing in
    let old = labels_of self.shadow self.held in
    let new = labels_of c.put_aimed.new.self c.put_aimed.new.held in
    let before = tape_of (ruling_of self.book.now.table self.known) self.shadow self.masks self.bits self.crossed self.byte_masks.items
    self.status_mask self.unclear in
    let mid = tape_of (ruling_of self.book.now.table self.known) c.put_aimed.new.self c.next-crossing.new.self c.put_in.new.bits
    c.saturating_add-self.result c.note_free.new.byte_masks.items c.in_ok-self.field-0 c.decided-self.result in
    masks-passed (record { masks = masks; skipped = self.skipped }) self.region past old before clear passing go
    c.in_ok-value.value new mid out refl c.in_ok-value.ensures.takes.longer
    (λ rules answers. visited rules (record { masks = masks; skipped = self.skipped }) past old before passing
    c.in_ok-value.value new mid c.passing_mask-mask.result c.next-crossing.result c.uncrossed-left.result c.shown_of-shown.result
    (c.passing_mask-mask.ensures.mask rules answers.answers) (c.next-crossing.ensures.mask masks past ahead) c.uncrossed-left.ensures.uncrossed
    (c.in_ok-put_aimed.ensures.put ∙ ap (λ label. aim_label passing.aim label old) c.labelled-label.ensures.label)
    (omega (arith, c.saturating_add-self.ensures, c.bit_count.ensures.count)) c.shown_of-shown.ensures c.in_ok-self.ensures.bytes c.in_ok-self.ensures.status c.in_ok-value.ensures.takes
    c.in_ok-value.ensures.value
    (c.decided-self.ensures ∙ ap (λ left. unclear_by_left left) c.left_bits.ensures))
    (after masks (passing.point ∷ past) (c.next-crossing.ensures.counted masks past ahead))

pub put_aimed-requires-clause-fits : goal.put_aimed-requires-clause-fits
put_aimed-requires-clause-fits g c =
    let passing = c.args.passing in
    rw c.labelled-label.ensures.mask
    (mask_for passing.aim passing.point.slot c.uncrossed-left.result c.requires.fits
    (λ narrow. omega (arith, c.passing_mask-mask.ensures.byte narrow, c.uncrossed-left.ensures.below)))

pub note_free-requires : goal.note_free-requires
note_free-requires g c =
    let mask = c.passing_mask-mask.result in
    rw c.shown_of-shown.ensures
    (fits_shown c.args.passing.point.slot mask c.next-crossing.result c.passing_mask-mask.ensures.byte)

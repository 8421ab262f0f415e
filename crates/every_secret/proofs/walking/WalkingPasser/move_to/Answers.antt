use Rattle.std.proofs.Common.{ap, sym, ◌∙◌}
use Rattle.run_labels.specs.TurnLabels.{put_label}
use Rattle.tracked_run.specs.Labels.{labels_of}
use Rattle.every_secret.specs.Masked.{label_moved}
use Rattle.every_secret.specs.Private.Tapes.{ruling_of, tape_of}
use Rattle.every_secret.proofs.Nodes.{masks-moved}
use Rattle.every_secret.proofs.RestingVisits.{no_rest}
use Rattle.every_secret.proofs.walking.WalkingPasser.move_to.Goals as goal

pub returns-clause-goes : goal.returns-clause-goes
returns-clause-goes g c = λ walk out after rest masks past ahead.
    let self = c.args.self.now in
    let old = labels_of self.shadow self.held in
    masks-moved (record { masks = masks; skipped = self.skipped }) self.region past old
    (tape_of (ruling_of self.book.now.table self.known) self.shadow self.masks self.bits self.crossed
    self.byte_masks.items self.status_mask self.unclear) (labels_of c.note_moved.new.shadow c.note_moved.new.held)
    c.note_moved.new.shadow c.args.place c.args.shape c.args.source c.args._value walk out
    (λ rules are. c.in_ok-note_moved.ensures.labels
    ∙ ap (λ public. put_label c.args.place
    (label_moved public self.skipped old c.args.place c.args.shape c.args.source) old) (sym are.public))
    (after (no_rest self.skipped self.masks _ self.unclear) masks past ahead)

use Rattle.tracked_run.specs.Labels.{labels_of}
use Rattle.every_secret.specs.Private.Tapes.{ruling_of, tape_of}
use Rattle.every_secret.proofs.Nodes.{masks-restored}
use Rattle.every_secret.proofs.RestingVisits.{no_rest}
use Rattle.every_secret.proofs.walking.WalkingPasser.restore.Goals as goal

pub returns-clause-goes : goal.returns-clause-goes
returns-clause-goes g c = λ walk back out after rest masks past ahead.
    let self = c.args.self.now in
    masks-restored (record { masks = masks; skipped = self.skipped }) self.region past
    (labels_of self.shadow self.held)
    (tape_of (ruling_of self.book.now.table self.known) self.shadow self.masks self.bits self.crossed self.byte_masks.items self.status_mask
    self.unclear) (labels_of c.note_restore.new.self self.held) c.note_restore.new.self c.args.registers.now walk back
    out (c.note_restore.ensures.labels self.held) (after (no_rest self.skipped self.masks _ self.unclear) masks past ahead)

use Rattle.tracked_run.specs.Labels.{labels_of}
use Rattle.taint_check.specs.Private.Tapes.{tape_of}
use Rattle.taint_check.proofs.Nodes.{clears_restored}
use Rattle.taint_check.proofs.clearing.ClearingPasser.restore.Goals as goal

pub returns-clause-goes : goal.returns-clause-goes
returns-clause-goes g c = λ walk back out after masks past ahead.
    let self = c.args.self.now in
    clears_restored self.region (record { masks = masks; skipped = self.skipped }) past
    (labels_of self.shadow self.held) (labels_of c.note_restore.new.shadow self.held)
    (tape_of self.book.now.table self.shadow self.tally self.look self.left) c.note_restore.new.shadow
    c.args.registers.now walk back out c.note_restore.ensures.base (c.note_restore.ensures.labels self.held)
    (after masks past ahead)

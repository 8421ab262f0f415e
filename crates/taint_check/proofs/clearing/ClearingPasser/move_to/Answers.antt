use Rattle.tracked_run.specs.Labels.{labels_of}
use Rattle.taint_check.specs.Private.Tapes.{tape_of}
use Rattle.taint_check.proofs.Nodes.{clears_moved}
use Rattle.taint_check.proofs.clearing.ClearingPasser.move_to.Goals as goal

pub returns-clause-goes : goal.returns-clause-goes
returns-clause-goes g c = λ walk out after masks past ahead.
    let self = c.args.self.now in
    clears_moved self.region (record { masks = masks; skipped = self.skipped }) past (labels_of self.shadow self.held)
    (labels_of c.note_move.new.shadow c.note_move.new.held)
    (tape_of self.book.now.table self.shadow self.tally self.look self.left) c.note_move.new.shadow c.args.place
    c.args.shape c.args.source c.args._value walk out c.in_ok-note_move.ensures.base c.in_ok-note_move.ensures.labels
    (after masks past ahead)

use Rattle.std.proofs.Common.{ap, ◌∙◌}
use Rattle.masked_turns.specs.Looking.{first_look}
use Rattle.tracked_run.specs.Labels.{labels_of}
use Rattle.taint_check.specs.Private.Tapes.{tape_of}
use Rattle.taint_check.proofs.Nodes.{clears_looked}
use Rattle.taint_check.proofs.clearing.ClearingPasser.look.Goals as goal

pub returns-clause-goes : goal.returns-clause-goes
returns-clause-goes g c = λ walk out after masks past ahead.
    let self = c.args.self.now in
    clears_looked self.region (record { masks = masks; skipped = self.skipped }) past (labels_of self.shadow self.held)
    (tape_of self.book.now.table self.shadow self.tally self.look self.left) c.earlier_look-self.result c.args.seen
    c.args._value walk out
    (c.earlier_look-self.ensures ∙ ap (λ look. first_look self.look look) (c.secret_look-look.ensures self.held))
    (after masks past ahead)

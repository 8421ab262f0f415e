use Rattle.std.proofs.Common.{◌∷◌, ap, ◌∙◌, subst}
use Rattle.tracked_run.specs.Labels.{labels_of}
use Rattle.masked_turns.specs.Deciding.{first_left}
use Rattle.masked_turns.specs.Notes.{Clears}
use Rattle.taint_check.specs.Private.Tapes.{tape_of}
use Rattle.lockstep_replay.specs.Sides.{tally_of}
use Rattle.taint_check.proofs.Nodes.{clears_passed}
use Rattle.taint_check.proofs.clearing.ClearingPasser.pass.Goals as goal

pub returns-clause-goes : goal.returns-clause-goes
returns-clause-goes g c = λ go out after masks past ahead.
    let self = c.args.self.now in
    let passing = c.args.passing in
    let new = labels_of c.note_cleared.new.shadow c.note_cleared.new.held in
    let is = c.cross-crossing.ensures.mask masks past ahead in
    clears_passed self.region (record { masks = masks; skipped = self.skipped }) past
    (labels_of self.shadow self.held) new (tape_of self.book.now.table self.shadow self.tally self.look self.left)
    c.note_cleared.new.shadow (tally_of c.cross-crossing.new.self) c.earlier_left-self.result c.in_ok-mask.mask
    passing go out self.tally.small c.in_ok-mask.ensures.base
    (subst (λ crossing. Clears self.book.now.table self.skipped crossing (labels_of self.shadow self.held) passing new
    c.in_ok-mask.mask) is c.in_ok-mask.ensures.notes)
    (c.earlier_left-self.ensures ∙ ap (λ left. first_left self.left left) c.left_bits-left.ensures)
    (c.cross-crossing.ensures.tally masks past ahead)
    (after masks (passing.point ∷ past) (c.cross-crossing.ensures.ahead masks past ahead))

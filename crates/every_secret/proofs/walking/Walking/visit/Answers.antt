use Rattle.std.proofs.Common.{refl, ◌∷◌, arith}
use Rattle.masked_turns.specs.Clearing.{Cutting}
use Rattle.tracked_run.specs.Labels.{labels_of}
use Rattle.every_secret.specs.Private.Walking.{lengthens_none}
use Rattle.every_secret.specs.Private.Tapes.{ruling_of, tape_of}
use Rattle.every_secret.proofs.IdleVisits.{ahead_stays, idle_visited}
use Rattle.every_secret.proofs.Nodes.{masks-passed}
use Rattle.every_secret.proofs.walking.Walking.visit.Goals as goal

pub returns-then-is_idle-clause-goes : goal.returns-then-is_idle-clause-goes
returns-then-is_idle-clause-goes g c = λ clear go out after masks past ahead.
    let self = c.args.self.now in
    let passing = c.args.passing in
    let old = labels_of self.shadow self.held in
    let new = labels_of self.shadow c.settle_aim.new.held in
    let before = tape_of (ruling_of self.book.now.table self.known) self.shadow self.masks self.bits self.crossed self.byte_masks.items
    self.status_mask self.unclear in
    let idle = c.is_idle.ensures c.if-is_idle.true in
    let cutting : Cutting = record { masks = masks; skipped = self.skipped } in
    masks-passed cutting self.region past old before clear passing go passing.value new before out refl
    (lengthens_none before.stream)
    (λ rules answers. idle_visited self.book.now.table rules answers.answers cutting past old before passing new
    c.are_words.ensures.operands idle ahead (c.settle_aim.ensures self.shadow idle.aim) c.are_words.ensures.crossed
    c.are_words.ensures.value (omega (arith, c.left.ensures.within)) clear)
    (after masks (passing.point ∷ past) (ahead_stays self.masks masks past passing.point idle.unmarked ahead))

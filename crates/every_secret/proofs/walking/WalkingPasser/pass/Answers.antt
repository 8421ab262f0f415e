use Rattle.std.proofs.Common.{refl, ◌∷◌, arith}
use Rattle.masked_turns.specs.Clearing.{Cutting}
use Rattle.tracked_run.specs.Labels.{labels_of}
use Rattle.every_secret.specs.Private.Walking.{lengthens_none}
use Rattle.every_secret.specs.Private.Tapes.{knowledge_of, ruling_of, tape_of}
use Rattle.every_secret.proofs.IdleVisits.{ahead_stays, idle_visited}
use Rattle.every_secret.proofs.Nodes.{masks-passed, over_passed}
use Rattle.every_secret.proofs.RestingVisits.{resting_idle, resting_same}
use Rattle.every_secret.proofs.walking.WalkingPasser.pass.Goals as goal

pub returns-then-passes_inside-clause-goes : goal.returns-then-passes_inside-clause-goes
returns-then-passes_inside-clause-goes g c = λ go out after rest masks past ahead.
    let self = c.args.self.now in
    let passing = c.args.passing in
    let old = labels_of self.shadow self.held in
    let before = tape_of (ruling_of self.book.now.table self.known) self.shadow self.masks self.bits self.crossed self.byte_masks.items
    self.status_mask self.unclear in
    let inside = c.passes_inside.ensures c.if-passes_inside.true in
    let address = self.rest in
    let at = rest inside.small in
    let idle = resting_idle address self.skipped self.masks old self.unclear at address passing inside.address inside in
    let cutting : Cutting = record { masks = masks; skipped = self.skipped } in
    masks-passed cutting self.region past old before at.clear passing go passing.value old before out refl
    (lengthens_none before.stream)
    (λ rules answers. idle_visited self.book.now.table rules answers.answers cutting past old before passing old
    c.are_words.ensures.operands idle ahead
    (resting_same address self.skipped self.masks old self.unclear at passing.aim inside.aim) c.are_words.ensures.crossed
    c.are_words.ensures.value (omega (arith, c.left.ensures.within)) at.clear)
    (after rest masks (passing.point ∷ past) (ahead_stays self.masks masks past passing.point idle.unmarked ahead))

pub returns-in-Some-clause-goes : goal.returns-in-Some-clause-goes
returns-in-Some-clause-goes g c = λ go out after rest masks past ahead.
    let self = c.args.self.now in
    let tape = tape_of (ruling_of self.book.now.table self.known) self.shadow self.masks self.bits self.crossed self.byte_masks.items
    self.status_mask self.unclear in
    let known = knowledge_of past (labels_of self.shadow self.held) tape in
    over_passed (record { masks = masks; skipped = self.skipped }) self.region known known tape _ c.in-Some.is
    c.args.passing c.args.passing.value go out (after rest masks past ahead)

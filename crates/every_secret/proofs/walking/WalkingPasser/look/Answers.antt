use Rattle.std.proofs.Common.{ap, sym, ◌∙◌}
use Rattle.tracked_run.specs.Labels.{labels_of}
use Rattle.every_secret.specs.Masked.{unclear_by_look}
use Rattle.every_secret.specs.Private.Tapes.{knowledge_of, ruling_of, tape_of}
use Rattle.every_secret.proofs.MadeTurns.{none_of}
use Rattle.every_secret.proofs.RestingVisits.{no_rest}
use Rattle.every_secret.proofs.Nodes.{masks-looked, over-looked}
use Rattle.every_secret.proofs.walking.WalkingPasser.look.Goals as goal

pub returns-in-Some-clause-goes : goal.returns-in-Some-clause-goes
returns-in-Some-clause-goes g c = λ walk out after rest masks past ahead.
    let self = c.args.self.now in
    let tape = tape_of (ruling_of self.book.now.table self.known) self.shadow self.masks self.bits self.crossed self.byte_masks.items
    self.status_mask self.unclear in
    let known = knowledge_of past (labels_of self.shadow self.held) tape in
    over-looked (record { masks = masks; skipped = self.skipped }) self.region known known tape _ c.in-Some.is
    c.args.seen c.args._value walk out (after rest masks past ahead)

pub returns-in-Some-secret_look-clause-goes : goal.returns-in-Some-secret_look-clause-goes
returns-in-Some-secret_look-clause-goes g c = λ walk out after rest masks past ahead.
    let self = c.args.self.now in
    let tape = tape_of (ruling_of self.book.now.table self.known) self.shadow self.masks self.bits self.crossed self.byte_masks.items
    self.status_mask self.unclear in
    masks-looked (record { masks = masks; skipped = self.skipped }) self.region past (labels_of self.shadow self.held)
    tape c.in-None.is _ c.args.seen c.args._value walk out
    (c.looked.ensures ∙ ap (λ look. unclear_by_look look) (sym c.in-Some-secret_look.is ∙ c.secret_look.ensures self.held))
    (after (no_rest self.skipped self.masks (labels_of self.shadow self.held) _) masks past ahead)

pub returns-in_default-clause-goes : goal.returns-in_default-clause-goes
returns-in_default-clause-goes g c = λ walk out after rest masks past ahead.
    let self = c.args.self.now in
    let tape = tape_of (ruling_of self.book.now.table self.known) self.shadow self.masks self.bits self.crossed self.byte_masks.items
    self.status_mask self.unclear in
    masks-looked (record { masks = masks; skipped = self.skipped }) self.region past (labels_of self.shadow self.held)
    tape c.in-None.is self.unclear c.args.seen c.args._value walk out
    (c.in-None.is ∙ ap (λ look. unclear_by_look look)
    (sym (none_of c.secret_look.result c.in_default.not-Some) ∙ c.secret_look.ensures self.held))
    (after rest masks past ahead)

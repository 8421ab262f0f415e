use Rattle.std.proofs.Common.{ap, ◌∙◌}
use Rattle.tracked_run.specs.Labels.{labels_of}
use Rattle.run_labels.specs.TurnLabels.{TurnLabels}
use Rattle.every_secret.proofs.CleanRegisters.{moved_registers}
use Rattle.every_secret.proofs.watched_shadows.WatchedShadow.note_move.Goals as goal

pub invariant_of-self-2 : goal.invariant_of-self-2
invariant_of-self-2 c = λ yes register.
    let old = labels_of c.self.inside.shadow c.args.held.now in
    ap (λ (labels : TurnLabels). labels.map.registers register) c.in_ok-note_move.ensures.labels
    ∙ moved_registers c.args.place c.args.shape c.args.source old
    (c.stay_beside-are_clean.ensures.beside yes) (c.self.invariant (c.stay_beside-are_clean.ensures.before yes)) register

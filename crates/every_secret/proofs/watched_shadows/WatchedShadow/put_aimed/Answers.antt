use Rattle.std.proofs.Common.{ap, ◌∙◌}
use Rattle.tracked_run.specs.Labels.{labels_of}
use Rattle.run_labels.specs.TurnLabels.{TurnLabels}
use Rattle.every_secret.proofs.CleanRegisters.{aimed_registers}
use Rattle.every_secret.proofs.watched_shadows.WatchedShadow.put_aimed.Goals as goal

pub clean_now-self-inside-requires : goal.clean_now-self-inside-requires
clean_now-self-inside-requires c = λ yes register.
    ap (λ (labels : TurnLabels). labels.map.registers register) c.in_ok-put_aimed.ensures.put
    ∙ aimed_registers c.args.aim c.args.label (labels_of c.self.inside.shadow c.args.held.now)
    (c.stay_clean-was_clean.ensures.label yes) (c.self.invariant (c.stay_clean-was_clean.ensures.before yes)) register

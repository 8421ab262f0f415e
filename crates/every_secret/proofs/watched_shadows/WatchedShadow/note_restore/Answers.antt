use Rattle.std.proofs.Common.{ap, ◌∙◌}
use Rattle.shadow_masks.specs.Shades.{Shades}
use Rattle.tracked_run.specs.Labels.{labels_of}
use Rattle.run_labels.specs.TurnLabels.{restore_labels}
use Rattle.every_secret.proofs.watched_shadows.WatchedShadow.note_restore.Goals as goal

pub returns-clause-labels : goal.returns-clause-labels
returns-clause-labels c = λ held.
    c.note_restore.ensures.labels held
    ∙ ap (λ (shades : Shades). restore_labels c.args.registers.now (labels_of shades held)) c.self.view_is

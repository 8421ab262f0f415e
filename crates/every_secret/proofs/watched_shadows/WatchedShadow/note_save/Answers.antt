use Rattle.std.proofs.Common.{ap, ◌∙◌}
use Rattle.shadow_masks.specs.Shades.{Shades}
use Rattle.tracked_run.specs.Labels.{labels_of}
use Rattle.run_labels.specs.TurnLabels.{save_labels}
use Rattle.every_secret.proofs.watched_shadows.WatchedShadow.note_save.Goals as goal

pub returns-clause-labels : goal.returns-clause-labels
returns-clause-labels c = λ held.
    c.note_save.ensures.labels held
    ∙ ap (λ (shades : Shades). save_labels (labels_of shades held)) c.self.view_is

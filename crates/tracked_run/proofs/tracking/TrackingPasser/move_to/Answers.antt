use Rattle.tracked_run.specs.Labels.{labels_of}
use Rattle.tracked_run.proofs.Nodes.{goes_err, tracks_moved, wants_moved}
use Rattle.tracked_run.proofs.tracking.TrackingPasser.move_to.Goals as goal

pub returns-clause-goes : goal.returns-clause-goes
returns-clause-goes g c = λ walk out after.
    tracks_moved g.E.Events.stands_for c.args.self.now.book.now.table c.args.self.now.region
    (labels_of c.args.self.now.shadow.now c.args.self.now.held)
    (labels_of c.note_move.new.shadow c.note_move.new.held)
    (record {
      shades = c.args.self.now.shadow.now;
      events = c.args.self.now.events.now;
      refused = c.args.self.now.refused;
      shadow_lent = c.args.self.now.shadow.ghost_name;
      events_lent = c.args.self.now.events.ghost_name;
    })
    c.note_move.new.shadow c.args.place c.args.shape c.args.source c.args._value walk out c.in_ok-note_move.ensures.base
    c.in_ok-note_move.ensures.labels after

pub returns-in_err-note_move-clause-goes : goal.returns-in_err-note_move-clause-goes
returns-in_err-note_move-clause-goes g c = λ walk.
    goes_err c.from_residual.result _ _ c.from_residual.ensures.0
    (λ stop. wants_moved c.args.place c.args.shape c.args.source c.args._value walk c.in_err-note_move.ensures.byte)

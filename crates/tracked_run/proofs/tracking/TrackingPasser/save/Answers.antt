use Rattle.tracked_run.specs.Labels.{labels_of}
use Rattle.tracked_run.proofs.Nodes.{tracks_saved}
use Rattle.tracked_run.proofs.tracking.TrackingPasser.save.Goals as goal

pub returns-clause-goes : goal.returns-clause-goes
returns-clause-goes g c = λ walk out after.
    tracks_saved g.E.Events.stands_for c.args.self.now.book.now.table c.args.self.now.region
    (labels_of c.args.self.now.shadow.now c.args.self.now.held)
    (labels_of c.note_save.new.shadow c.args.self.now.held)
    (record {
      shades = c.args.self.now.shadow.now;
      events = c.args.self.now.events.now;
      refused = c.args.self.now.refused;
      shadow_lent = c.args.self.now.shadow.ghost_name;
      events_lent = c.args.self.now.events.ghost_name;
    })
    c.note_save.new.shadow walk out c.note_save.ensures.base (c.note_save.ensures.labels c.args.self.now.held) after

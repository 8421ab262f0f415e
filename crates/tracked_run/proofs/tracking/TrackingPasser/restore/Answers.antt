use Rattle.tracked_run.specs.Labels.{labels_of}
use Rattle.tracked_run.proofs.Nodes.{tracks_restored}
use Rattle.tracked_run.proofs.tracking.TrackingPasser.restore.Goals as goal

pub returns-clause-goes : goal.returns-clause-goes
returns-clause-goes g c = λ walk back out after.
    tracks_restored g.E.Events.stands_for c.args.self.now.book.now.table c.args.self.now.region
    (labels_of c.args.self.now.shadow.now c.args.self.now.held)
    (labels_of c.note_restore.new.shadow c.args.self.now.held)
    (record {
      shades = c.args.self.now.shadow.now;
      events = c.args.self.now.events.now;
      refused = c.args.self.now.refused;
      shadow_lent = c.args.self.now.shadow.ghost_name;
      events_lent = c.args.self.now.events.ghost_name;
    })
    c.note_restore.new.shadow c.args.registers.now walk back out c.note_restore.ensures.base
    (c.note_restore.ensures.labels c.args.self.now.held) after

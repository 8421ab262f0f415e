use Rattle.std.proofs.Common.{ap, ◌∙◌}
use Rattle.tracked_run.specs.Labels.{labels_of}
use Rattle.tracked_run.proofs.Nodes.{tracks_looked}
use Rattle.std.specs.Option.{option_or}
use Rattle.tracked_run.proofs.tracking.TrackingPasser.look.Goals as goal

pub returns-clause-goes : goal.returns-clause-goes
returns-clause-goes g c = λ walk out after.
    tracks_looked g.E.Events.stands_for c.args.self.now.book.now.table c.args.self.now.region
    (labels_of c.args.self.now.shadow.now c.args.self.now.held)
    (record {
      shades = c.args.self.now.shadow.now;
      events = c.args.self.now.events.now;
      refused = c.args.self.now.refused;
      shadow_lent = c.args.self.now.shadow.ghost_name;
      events_lent = c.args.self.now.events.ghost_name;
    })
    c.note_fault.new.refused c.args.seen c.args._value walk out
    (c.note_fault.ensures ∙ ap (λ fault. option_or c.args.self.now.refused fault)
    (c.look_fault-fault.ensures c.args.self.now.held)) after

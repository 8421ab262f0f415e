use Rattle.tracked_run.specs.Labels.{labels_of}
use Rattle.tracked_run.proofs.Nodes.{goes_err, tracks_passed, wants_passed}
use Rattle.tracked_run.proofs.tracking.TrackingPasser.pass.Goals as goal

pub returns-clause-goes : goal.returns-clause-goes
returns-clause-goes g c = λ go out after.
    tracks_passed g.E.Events.stands_for c.args.self.now.book.now.table c.args.self.now.region
    (labels_of c.args.self.now.shadow.now c.args.self.now.held)
    (labels_of c.note_passing.new.shadow c.note_passing.new.held)
    (record {
      shades = c.args.self.now.shadow.now;
      events = c.args.self.now.events.now;
      refused = c.args.self.now.refused;
      shadow_lent = c.args.self.now.shadow.ghost_name;
      events_lent = c.args.self.now.events.ghost_name;
    })
    c.note_passing.new.shadow c.note_passing.new.events c.in_ok-note_passing.ensures.notes.answer c.args.passing go out
    c.in_ok-note_passing.ensures.base c.in_ok-note_passing.ensures.notes.is_answer.sound
    c.in_ok-note_passing.ensures.notes.is_answer.by_table c.in_ok-note_passing.ensures.notes.labels
    c.in_ok-note_passing.ensures.notes.events after

pub returns-in_err-note_passing-clause-goes : goal.returns-in_err-note_passing-clause-goes
returns-in_err-note_passing-clause-goes g c = λ go.
    goes_err c.from_residual.result _ _ c.from_residual.ensures.0 (λ stop. wants_passed c.args.passing go)

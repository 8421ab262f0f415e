use Rattle.region_learn.specs.Private.Notes.{noted_of}
use Rattle.region_learn.proofs.NoteCalls.{moved}
use Rattle.region_learn.proofs.notes.NotesPasser.move_to.Goals as goal

pub returns-clause-goes : goal.returns-clause-goes
returns-clause-goes c = λ walk out h.
    moved (noted_of c.args.self.now) (noted_of c.note.new.self) c.args.place c.args._shape c.args._source c.args._value
    walk out
    (record {
      places = c.in_ok-note.ensures.places;
      changed = c.note.ensures.changed;
      region = c.note.ensures.region;
      base = c.note.ensures.base;
    }) h

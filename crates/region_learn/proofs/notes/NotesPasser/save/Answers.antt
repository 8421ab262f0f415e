use Rattle.region_learn.specs.Private.Notes.{noted_of}
use Rattle.region_learn.proofs.NoteCalls.{kept}
use Rattle.region_learn.proofs.notes.NotesPasser.save.Goals as goal

pub returns-clause-goes : goal.returns-clause-goes
returns-clause-goes c = λ walk out h. kept (noted_of c.args.self.now) walk out h

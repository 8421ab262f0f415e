use Rattle.region_learn.specs.Private.Notes.{noted_of}
use Rattle.region_learn.proofs.NoteCalls.{looked}
use Rattle.region_learn.proofs.notes.NotesPasser.look.Goals as goal

pub returns-clause-goes : goal.returns-clause-goes
returns-clause-goes c = λ walk out h. looked (noted_of c.args.self.now) c.args._seen c.args._value walk out h

use Rattle.region_learn.specs.Private.Notes.{noted_of}
use Rattle.region_learn.proofs.NoteCalls.{stayed}
use Rattle.region_learn.proofs.notes.NotesPasser.restore.Goals as goal

pub returns-clause-goes : goal.returns-clause-goes
returns-clause-goes c = λ walk back out h. stayed (noted_of c.args.self.now) c.args._registers.now walk back out h

use Rattle.tracked_run.proofs.changes.look_fault.Goals as goal

pub returns-in-Word : goal.returns-in-Word
returns-in-Word c = λ held. rw c.in-Word.is (c.code_fault.ensures c.args.region held)

pub returns-in-Base : goal.returns-in-Base
returns-in-Base c = λ held. rw c.in-Base.is (c.base_fault.ensures held)

use Rattle.masked_turns.proofs.looking.secret_look.Goals as goal

pub returns-in-Word : goal.returns-in-Word
returns-in-Word c = λ held. rw c.in-Word.is (c.code_look.ensures c.args.region held)

pub returns-in-Base : goal.returns-in-Base
returns-in-Base c = λ held. rw c.in-Base.is (c.base_look.ensures held)

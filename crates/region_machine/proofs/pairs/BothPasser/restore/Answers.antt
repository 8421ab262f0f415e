use Rattle.region_machine.proofs.PairCalls.{pairs_restored}
use Rattle.region_machine.proofs.pairs.BothPasser.restore.Goals as goal

pub returns-in-Ok-clause-goes : goal.returns-in-Ok-clause-goes
returns-in-Ok-clause-goes g c = λ walk back. rw c.of_second.ensures
    (pairs_restored (g.A.Passer.Plays c.args.self.now.first) (g.A.Passer.Plays c.restore.new.self)
    (g.B.Passer.Plays c.args.self.now.second) (g.B.Passer.Plays c.restore-in-Ok.new.self)
    (g.A.Passer.tape c.restore.new.self) (g.B.Passer.tape c.restore-in-Ok.new.self) c.args.registers.now
    c.in-Ok.field-0 c.restore-in-Ok.result walk back c.in-Ok.ensures.goes c.restore-in-Ok.ensures.goes
    (g.met.A.Passer.at_end c.restore.new.self) (g.met.A.Observer.real c.args.self.now.first)
    (g.met.B.Passer.at_end c.restore-in-Ok.new.self) (g.met.B.Observer.real c.args.self.now.second))

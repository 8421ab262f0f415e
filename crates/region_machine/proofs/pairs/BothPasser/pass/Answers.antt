use Rattle.region_machine.proofs.PairCalls.{pairs_passed}
use Rattle.region_machine.proofs.PairMemory.{in_second, sources_in}
use Rattle.region_machine.proofs.pairs.BothPasser.pass.Goals as goal

pub pass-requires-in-Ok-clause-sources : goal.pass-requires-in-Ok-clause-sources
pass-requires-in-Ok-clause-sources g c =
    sources_in _ _ (in_second (g.A.Passer.memory c.args.self.now.first) (g.B.Passer.memory c.args.self.now.second) c.args.self.now.agree) c.args.passing.sources c.requires.sources

pub returns-in-Ok-clause-goes : goal.returns-in-Ok-clause-goes
returns-in-Ok-clause-goes g c = λ go. rw c.of_second.ensures
    (pairs_passed (g.A.Passer.Plays c.args.self.now.first) (g.A.Passer.Plays c.pass.new.self)
    (g.B.Passer.Plays c.args.self.now.second) (g.B.Passer.Plays c.pass-in-Ok.new.self)
    (g.A.Passer.tape c.pass.new.self) (g.B.Passer.tape c.pass-in-Ok.new.self) c.args.passing c.in-Ok.field-0
    c.pass-in-Ok.result go c.in-Ok.ensures.goes c.pass-in-Ok.ensures.goes
    (g.met.A.Passer.at_end c.pass.new.self) (g.met.A.Observer.real c.args.self.now.first)
    (g.met.B.Passer.at_end c.pass-in-Ok.new.self) (g.met.B.Observer.real c.args.self.now.second))

use Rattle.rv32im_machine.specs.Language.{Saved}
use Rattle.region_machine.proofs.PairCalls.{pairs_done}
use Rattle.region_machine.proofs.pairs.BothPasser.save.Goals as goal

pub returns-in-Ok-clause-goes : goal.returns-in-Ok-clause-goes
returns-in-Ok-clause-goes g c = λ walk. rw c.of_second.ensures
    (pairs_done (g.A.Passer.Plays c.args.self.now.first (Saved walk)) (g.A.Passer.Plays c.save.new.self walk)
    (g.B.Passer.Plays c.args.self.now.second (Saved walk)) (g.B.Passer.Plays c.save-in-Ok.new.self walk)
    c.save-in-Ok.result (c.in-Ok.ensures.goes walk) (c.save-in-Ok.ensures.goes walk))

use Rattle.rv32im_machine.specs.Language.{Looked}
use Rattle.region_machine.proofs.PairCalls.{pairs_done}
use Rattle.region_machine.proofs.PairMemory.{in_second, seen_in}
use Rattle.region_machine.proofs.pairs.BothPasser.look.Goals as goal

pub look-requires-in-Ok : goal.look-requires-in-Ok
look-requires-in-Ok g c = seen_in _ _ (in_second (g.A.Passer.memory c.args.self.now.first) (g.B.Passer.memory c.args.self.now.second) c.args.self.now.agree) c.args.seen c.requires

pub returns-in-Ok-clause-goes : goal.returns-in-Ok-clause-goes
returns-in-Ok-clause-goes g c = λ walk. rw c.of_second.ensures
    (pairs_done (g.A.Passer.Plays c.args.self.now.first (Looked c.args.seen c.args.value walk)) (g.A.Passer.Plays c.look.new.self walk)
    (g.B.Passer.Plays c.args.self.now.second (Looked c.args.seen c.args.value walk)) (g.B.Passer.Plays c.look-in-Ok.new.self walk)
    c.look-in-Ok.result (c.in-Ok.ensures.goes walk) (c.look-in-Ok.ensures.goes walk))

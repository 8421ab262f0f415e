use Rattle.rv32im_machine.specs.Language.{Moved}
use Rattle.region_machine.proofs.PairCalls.{pairs_done}
use Rattle.region_machine.proofs.PairMemory.{in_second, place_in, source_in}
use Rattle.region_machine.proofs.pairs.BothPasser.move_to.Goals as goal

pub move_to-requires-in-Ok-clause-place : goal.move_to-requires-in-Ok-clause-place
move_to-requires-in-Ok-clause-place g c = place_in _ _ (in_second (g.A.Passer.memory c.args.self.now.first) (g.B.Passer.memory c.args.self.now.second) c.args.self.now.agree) c.args.place c.requires.place

pub move_to-requires-in-Ok-clause-source : goal.move_to-requires-in-Ok-clause-source
move_to-requires-in-Ok-clause-source g c = source_in _ _ (in_second (g.A.Passer.memory c.args.self.now.first) (g.B.Passer.memory c.args.self.now.second) c.args.self.now.agree) c.args.source c.requires.source

pub returns-in-Ok-clause-goes : goal.returns-in-Ok-clause-goes
returns-in-Ok-clause-goes g c = λ walk. rw c.of_second.ensures
    (pairs_done (g.A.Passer.Plays c.args.self.now.first (Moved c.args.place c.args.shape c.args.source c.args.value walk)) (g.A.Passer.Plays c.move_to.new.self walk)
    (g.B.Passer.Plays c.args.self.now.second (Moved c.args.place c.args.shape c.args.source c.args.value walk)) (g.B.Passer.Plays c.move_to-in-Ok.new.self walk)
    c.move_to-in-Ok.result (c.in-Ok.ensures.goes walk) (c.move_to-in-Ok.ensures.goes walk))

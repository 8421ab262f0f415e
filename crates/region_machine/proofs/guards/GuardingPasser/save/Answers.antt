use Rattle.region_machine.proofs.GuardCalls.{guards_saved}
use Rattle.region_machine.proofs.guards.GuardingPasser.save.Goals as goal

pub returns-clause-goes : goal.returns-clause-goes
returns-clause-goes g c = λ walk.
    guards_saved (g.P.Passer.Plays c.args.self.now.passer.now) (g.P.Passer.Plays c.save.new.self) c.args.self.now.region.now c.args.self.now.kept c.args.self.now.pc
    c.args.self.now.broken c.args.self.now.passer.ghost_name c.save.result walk (c.save.ensures.goes walk)

use Rattle.region_machine.proofs.GuardCalls.{guards_looked}
use Rattle.region_machine.proofs.guards.GuardingPasser.look.Goals as goal

pub returns-clause-goes : goal.returns-clause-goes
returns-clause-goes g c = λ walk.
    guards_looked (g.P.Passer.Plays c.args.self.now.passer.now) (g.P.Passer.Plays c.look.new.self) c.args.self.now.region.now c.args.self.now.kept c.args.self.now.pc
    c.args.self.now.broken c.args.self.now.passer.ghost_name c.args.seen c.args.value c.look.result walk (c.look.ensures.goes walk)

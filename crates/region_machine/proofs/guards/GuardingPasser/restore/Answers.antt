use Rattle.region_machine.proofs.GuardCalls.{guards_restored}
use Rattle.region_machine.proofs.guards.GuardingPasser.restore.Goals as goal

pub returns-clause-goes : goal.returns-clause-goes
returns-clause-goes g c = λ walk back.
    guards_restored (g.P.Passer.Plays c.args.self.now.passer.now) (g.P.Passer.Plays c.restore.new.self)
    (g.P.Passer.tape c.restore.new.self) c.args.self.now.region.now c.args.self.now.kept c.args.self.now.pc c.args.self.now.broken c.args.self.now.passer.ghost_name
    c.args.registers.now c.restore.result walk back c.restore.ensures.goes
    (g.met.P.Passer.at_end c.restore.new.self) (g.met.P.Observer.real c.args.self.now.passer.now)

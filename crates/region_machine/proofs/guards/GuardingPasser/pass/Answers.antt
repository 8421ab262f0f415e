use Rattle.std.proofs.Common.{sym}
use Rattle.region_machine.proofs.GuardCalls.{guards_passed}
use Rattle.region_machine.proofs.guards.GuardingPasser.pass.Goals as goal

pub returns-clause-goes : goal.returns-clause-goes
returns-clause-goes g c = λ go.
    guards_passed (g.P.Passer.Plays c.args.self.now.passer.now) (g.P.Passer.Plays c.pass.new.self) (g.P.Passer.tape c.pass.new.self)
    c.args.self.now.region.now c.args.self.now.kept c.args.self.now.pc c.args.self.now.broken c.earlier-self.result c.args.self.now.passer.ghost_name c.args.passing c.pass.result go
    (rw (sym c.passing_break-broken.ensures) c.earlier-self.ensures) c.pass.ensures.goes
    (g.met.P.Passer.at_end c.pass.new.self) (g.met.P.Observer.real c.args.self.now.passer.now)

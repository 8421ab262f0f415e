use Rattle.std.proofs.Common.{sym}
use Rattle.region_machine.proofs.GuardCalls.{guards_moved}
use Rattle.region_machine.proofs.guards.GuardingPasser.move_to.Goals as goal

pub returns-clause-goes : goal.returns-clause-goes
returns-clause-goes g c = λ walk.
    guards_moved (g.P.Passer.Plays c.args.self.now.passer.now) (g.P.Passer.Plays c.move_to.new.self) c.args.self.now.region.now c.args.self.now.kept c.args.self.now.pc
    c.args.self.now.broken c.earlier-self.result c.args.self.now.passer.ghost_name c.args.place c.args.shape c.args.source c.args.value
    c.move_to.result walk (rw (sym c.place_break-broken.ensures) c.earlier-self.ensures) (c.move_to.ensures.goes walk)

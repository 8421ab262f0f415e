use Rattle.std.proofs.Common.{subst}
use Rattle.std.proofs.lemmas.Result.{on_ok_weaker}
use Rattle.flow_graph.proofs.Again.{again_in_turn}
use Rattle.flow_graph.proofs.events.Events.add_again.Goals as goal

pub returns : goal.returns
returns g c =
    on_ok_weaker c.add-3.result
    (λ put list stands. subst (g.Self.Events.stands_for c.add-3.new.self)
    (again_in_turn list c.args.point c.args.mask) (put _ (c.in_ok-add-2.ensures _ (c.in_ok-add.ensures list stands))))
    c.add-3.ensures

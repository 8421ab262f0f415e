use Rattle.std.proofs.Common.{◌≡◌, length}
use Rattle.flow_graph.specs.Graphs.{ascend}
use Rattle.flow_graph.proofs.checking.do_ascend.Given as goal

abbrev pub invariant-loop-rest : goal.invariant-loop-rest
invariant-loop-rest g l = ascend g.T.Ranked.order l.rest ≡ ascend g.T.Ranked.order l.items

abbrev pub decreases-loop-rest : goal.decreases-loop-rest
decreases-loop-rest g l = length l.rest

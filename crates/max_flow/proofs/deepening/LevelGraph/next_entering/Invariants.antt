use Rattle.std.proofs.Common.{slice_index}
use Rattle.max_flow.specs.Private.Deepening.{HasCurrentArcs}
use Rattle.max_flow.proofs.deepening.LevelGraph.next_entering.Given as goal

abbrev pub invariant-loop-self : goal.invariant-loop-self
invariant-loop-self l = HasCurrentArcs l.network l.self

abbrev pub decreases-loop-self : goal.decreases-loop-self
decreases-loop-self l = slice_index l.self.entering.items l.at
